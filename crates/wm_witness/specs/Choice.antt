-- The writers that a byte of a read can have, in the valid runs that keep the assumptions.
use Rattle.std.specs.Prelude.{◌≡◌, ◌<◌, ℕ, List, Some}
use Rattle.wm_event.specs.declared.event.Event.{Event}
use Rattle.wm_event.specs.declared.event.EventKey.{EventKey}
use Rattle.wm_event.specs.declared.event.EventId.{EventId}
use Rattle.wm_event.specs.declared.event.EventId.TheVariants.{Init}
use Rattle.wm_event.specs.Event.{key_of}
use Rattle.wm_event.specs.Execution.{ReadsFrom}
use Rattle.wm_event.specs.Log.{event_in}
use Rattle.wm_event.specs.LoggedRun.{LoggedRun, execution}
use Rattle.wm_event.specs.Shape.{read_width}
use Rattle.wm_witness.specs.declared.assumption.Assumption.{Assumption}
use Rattle.wm_witness.specs.declared.choice.Choice.{Choice}
use Rattle.wm_witness.specs.declared.choice.Choice.TheVariants.{Nothing, Only, Several}
use Rattle.wm_witness.specs.declared.choice.Taken.{Taken}
use Rattle.wm_witness.specs.Always.{Always, IsClosed}
use Rattle.wm_witness.specs.Assumptions.{Holds}

-- e is an event of the log
abbrev pub IsEventOf : LoggedRun → Event → Type 0
IsEventOf run e = event_in run.log (key_of e) ≡ Some e

-- byte k of the read r is never from w
abbrev pub IsExcluded : LoggedRun → List Assumption → EventKey → ℕ → EventId → Type 0
IsExcluded run assumed r k w = Always run assumed (λ x. ReadsFrom (execution x) r k w → ⊥)

-- no byte of the read e is ever from Init
abbrev pub IsNeverFromInit : LoggedRun → List Assumption → Event → Type 0
IsNeverFromInit run assumed e = (k : ℕ) → k < read_width e → IsExcluded run assumed (key_of e) k Init

-- some byte of the read e is never from w
pub record IsOutOfRead (run : LoggedRun) (assumed : List Assumption) (e : Event) (w : EventId) : Type 0 where
  pub byte : ℕ
  pub inside : byte < read_width e
  pub excluded : IsExcluded run assumed (key_of e) byte w

-- that the assumption holds excludes it
abbrev pub Denies : Assumption → EventKey → ℕ → EventId → Type 0
Denies a r k w = (x : LoggedRun) → Holds x a → ReadsFrom (execution x) r k w → ⊥

-- the byte is always from the writer
abbrev pub IsTaken : LoggedRun → List Assumption → Taken → Type 0
IsTaken run assumed t = Always run assumed (λ x. ReadsFrom (execution x) t.reader t.byte t.writer)

-- no writer can be that of byte k of the read e; only one can; or several may be
abbrev pub IsChoice : LoggedRun → List Assumption → Event → ℕ → Choice → Type 0
IsChoice run assumed e k Nothing = IsClosed run assumed
IsChoice run assumed e k (Only w) = Always run assumed (λ x. ReadsFrom (execution x) (key_of e) k w)
IsChoice run assumed e k Several = Unit {0}
