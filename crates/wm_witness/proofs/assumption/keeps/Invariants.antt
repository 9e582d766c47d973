-- The assumptions so far hold.
use Rattle.std.specs.Prelude.{All, take}
use Rattle.wm_witness.specs.Assumptions.{Holds}
use Rattle.wm_witness.proofs.assumption.keeps.Given as goal

abbrev pub invariant-loop-assumption : goal.invariant-loop-assumption
invariant-loop-assumption l = All (Holds l.candidate) (take l.assumption-index l.assumed)
