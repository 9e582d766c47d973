-- Assumptions about the witness of a log, and the runs that keep them.
use Rattle.std.specs.Prelude.{◌<◌, ℕ, List, All}
use Rattle.wm_event.specs.declared.event.EventKey.{EventKey}
use Rattle.wm_event.specs.declared.event.EventId.TheVariants.{At}
use Rattle.wm_event.specs.Execution.{Execution, ReadsFrom, place}
use Rattle.wm_event.specs.LoggedRun.{LoggedRun, execution}
use Rattle.wm_witness.specs.declared.assumption.Assumption.{Assumption}
use Rattle.wm_witness.specs.declared.assumption.Assumption.TheVariants.{Takes, TakesNone, Byte, NotByte, Before}

-- some byte of the read r is from u
abbrev pub TakesFrom : Execution → EventKey → EventKey → Type 0
TakesFrom x r u = (k : ℕ) × ReadsFrom x r k (At u)

-- what an assumption says of the run's witness
abbrev pub Holds : LoggedRun → Assumption → Type 0
Holds run (Takes r u) = TakesFrom (execution run) r u
Holds run (TakesNone r u) = TakesFrom (execution run) r u → ⊥
Holds run (Byte r k w) = ReadsFrom (execution run) r k w
Holds run (NotByte r k w) = ReadsFrom (execution run) r k w → ⊥
Holds run (Before a b) = place (execution run) (At a) < place (execution run) (At b)

-- the run's witness keeps the assumptions: each of them holds
abbrev pub Keeps : LoggedRun → List Assumption → Type 0
Keeps run assumed = All (Holds run) assumed
