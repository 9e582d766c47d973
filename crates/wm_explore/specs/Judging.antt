-- Whether the memory rules permit a log whose events arrived in an order, each after those from which it takes bytes.
use Rattle.std.specs.Prelude.{◌≡◌, ℕ, ◌<◌, List, Some, IsSome, ⊤, slice_get}
use Rattle.wm_event.specs.Execution.{Execution, ReadsFrom}
use Rattle.wm_event.specs.LoggedRun.{LoggedRun, execution}
use Rattle.wm_event.specs.Rules.{IsValid}
use Rattle.wm_event.specs.Shape.{IsWellShaped}
use Rattle.wm_event.specs.declared.event.EventId.TheVariants.{At}
use Rattle.wm_event.specs.declared.event.EventKey.{EventKey}
use Rattle.wm_event.specs.declared.log.ThreadLog.{ThreadLog}
use Rattle.wm_event.specs.declared.witness.Witness.{Witness}
use Rattle.wm_explore.specs.declared.judge.Permission.{Permission}
use Rattle.wm_explore.specs.declared.judge.Permission.TheVariants.{With, Never, Unknown}

abbrev pub run_with : List ThreadLog → List ℕ → Witness → LoggedRun
run_with log initial witness = record { log = log; witness = witness; initial = initial }

-- the log with this witness is well shaped and valid
abbrev pub IsAllowedWith : List ThreadLog → List ℕ → Witness → Type 0
IsAllowedWith log initial witness = IsWellShaped (run_with log initial witness) × IsValid (execution (run_with log initial witness))

-- each event takes its bytes only from events that arrived before it
abbrev pub LooksBack : Execution → List EventKey → Type 0
LooksBack x arrived = (r w : EventKey) (k i j : ℕ) → IsSome (x.event_of r) → ReadsFrom x r k (At w) → slice_get arrived i ≡ Some r → slice_get arrived j ≡ Some w → j < i

-- the witness makes the log valid and looks back, or none does
abbrev pub IsPermission : List ThreadLog → List EventKey → List ℕ → Permission → Type 0
IsPermission log arrived initial (With witness) = IsAllowedWith log initial witness × LooksBack (execution (run_with log initial witness)) arrived
IsPermission log arrived initial Never = (witness : Witness) → IsAllowedWith log initial witness → LooksBack (execution (run_with log initial witness)) arrived → ⊥
IsPermission log arrived initial Unknown = ⊤
