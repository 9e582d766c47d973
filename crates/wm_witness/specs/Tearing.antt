-- What the fourth rule says of the writers of a read, in the valid runs that keep the assumptions.
use Rattle.std.specs.Prelude.{◌≡◌, ◌≢◌, ◌<◌, ℕ, List}
use Rattle.wm_event.specs.declared.event.Event.{Event}
use Rattle.wm_event.specs.declared.event.EventKey.{EventKey}
use Rattle.wm_event.specs.declared.event.EventId.{EventId}
use Rattle.wm_event.specs.declared.event.EventId.TheVariants.{At}
use Rattle.wm_event.specs.Event.{key_of}
use Rattle.wm_event.specs.Execution.{ReadsFrom}
use Rattle.wm_event.specs.LoggedRun.{LoggedRun, execution}
use Rattle.wm_event.specs.Rules.{IsTearFreeLike}
use Rattle.wm_event.specs.Shape.{read_width}
use Rattle.wm_witness.specs.declared.assumption.Assumption.{Assumption}
use Rattle.wm_witness.specs.declared.assumption.Assumption.TheVariants.{Takes}
use Rattle.wm_witness.specs.Always.{Always}
use Rattle.wm_witness.specs.Choice.{IsExcluded}

-- byte k of the read e is always from an event that is tear-free with the range of the read
pub record IsTearFreeByte (run : LoggedRun) (assumed : List Assumption) (e : Event) (k : ℕ) : Type 0 where
  pub is_read : k < read_width e
  pub from_like : Always run assumed (λ x. (w : EventId) → ReadsFrom (execution x) (key_of e) k w → IsTearFreeLike (execution x) e w)

-- no byte of the read r is ever from w
abbrev pub IsNoWriter : LoggedRun → List Assumption → EventKey → EventId → Type 0
IsNoWriter run assumed r w = (k : ℕ) → IsExcluded run assumed r k w

-- the assumption is that the read e takes a byte from an event that is tear-free with its range and isn't w
pub record TakesOther (run : LoggedRun) (e : Event) (w : EventId) (assumption : Assumption) : Type 0 where
  pub other : EventKey
  pub is_taken : assumption ≡ Takes (key_of e) other
  pub is_other : At other ≢ w
  pub like : IsTearFreeLike (execution run) e (At other)
