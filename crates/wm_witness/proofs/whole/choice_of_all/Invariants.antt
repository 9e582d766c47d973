-- each of those so far is out, or was found
use Rattle.wm_witness.proofs.WholeLaw.{AreLooked}
use Rattle.wm_witness.proofs.whole.choice_of_all.Given as goal

abbrev pub invariant-loop-offer : goal.invariant-loop-offer
invariant-loop-offer l = AreLooked l.start l.assumed l.event l.offer-items l.offer-index l.found
