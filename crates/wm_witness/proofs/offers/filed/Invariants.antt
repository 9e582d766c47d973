-- the events so far are filed
use Rattle.std.specs.Prelude.{All, take}
use Rattle.wm_witness.specs.Offers.{IsFiled}
use Rattle.wm_witness.proofs.offers.filed.Given as goal

abbrev pub invariant-loop-key : goal.invariant-loop-key
invariant-loop-key l = All (IsFiled l.start.log l.offers.items) (take l.key-index l.order)
