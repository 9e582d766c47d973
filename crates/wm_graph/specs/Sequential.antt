-- Orders of all events in which each read takes the last write, and what comes first in each of them.
use Rattle.std.specs.Prelude.{◌≡◌, ℕ, ◌+◌, ◌<◌, ◌≤◌, IsSome}
use Rattle.wm_event.specs.declared.event.EventId.{EventId}
use Rattle.wm_event.specs.declared.event.EventId.TheVariants.{At}
use Rattle.wm_event.specs.declared.event.EventKey.{EventKey}
use Rattle.wm_event.specs.Execution.{Execution, place}
use Rattle.wm_event.specs.HappensBefore.{SequencedBefore}
use Rattle.wm_event.specs.Log.{event_in}
use Rattle.wm_event.specs.LoggedRun.{LoggedRun}
use Rattle.wm_event.specs.Rules.{EachByteRead, Writes}
use Rattle.wm_event.specs.Witness.{writers_in}

-- w writes the byte before r, and no write of the byte comes between them
pub record IsLastWrite (x : Execution) (a : ℕ) (w : EventId) (r : EventKey) : Type 0 where
  pub written : Writes x w a
  pub before : place x w < place x (At r)
  pub last : (v : EventId) → Writes x v a → place x v < place x (At r) → place x v ≤ place x w

-- the events are in an order that extends the one of each thread, and each byte is read from the last write of it
pub record IsSequential (x : Execution) : Type 0 where
  pub apart : (a b : EventKey) → IsSome (x.event_of a) → IsSome (x.event_of b) → x.place_of a ≡ x.place_of b → a ≡ b
  pub in_threads : (a b : EventKey) → SequencedBefore x a b → x.place_of a < x.place_of b
  pub takes_last : EachByteRead x (λ r e k w. IsLastWrite x (e.address + k) w r)

-- the events of a run, with these writers, in these places of an order
abbrev pub placed : LoggedRun → (EventKey → ℕ) → Execution
placed x place_of = record { event_of = event_in x.log; writers_of = writers_in x.witness; place_of = place_of; initial = x.initial }

-- a comes before b in each order in which the run is sequential
abbrev pub IsForced : LoggedRun → EventKey → EventKey → Type 0
IsForced x a b = (place_of : EventKey → ℕ) → IsSequential (placed x place_of) → place_of a < place_of b

-- the run is sequential in no order
abbrev pub IsSequentialInNoOrder : LoggedRun → Type 0
IsSequentialInNoOrder x = (place_of : EventKey → ℕ) → IsSequential (placed x place_of) → ⊥
