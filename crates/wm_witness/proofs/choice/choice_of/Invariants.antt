-- each of those so far is excluded, or was found
use Rattle.wm_witness.proofs.ChoiceLaw.{AreSeen}
use Rattle.wm_witness.proofs.choice.choice_of.Given as goal

abbrev pub invariant-loop-writer : goal.invariant-loop-writer
invariant-loop-writer l = AreSeen l.start l.assumed l.event l.byte l.writer-index l.found
