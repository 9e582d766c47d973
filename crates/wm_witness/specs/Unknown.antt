-- The witness that stands where none is known.
use Rattle.std.specs.Prelude.{◌≡◌, ◌≤◌, ℕ, List, Some, flat_map, map, replicate}
use Rattle.wm_event.specs.declared.event.Event.{Event}
use Rattle.wm_event.specs.declared.event.EventKey.{EventKey}
use Rattle.wm_event.specs.declared.event.EventId.{EventId}
use Rattle.wm_event.specs.declared.event.EventId.TheVariants.{Init}
use Rattle.wm_event.specs.declared.log.ThreadLog.{ThreadLog}
use Rattle.wm_event.specs.declared.witness.Witness.{Witness}
use Rattle.wm_event.specs.Event.{key_of}
use Rattle.wm_event.specs.Limits.{max_events}
use Rattle.wm_event.specs.Log.{event_in}
use Rattle.wm_event.specs.Shape.{InMemory, IsWellShaped, ValuesFit, event_count, read_width}

-- Init, once for each byte that the event reads
abbrev pub from_init : Event → List EventId
from_init e = replicate (read_width e) Init

abbrev pub thread_from_init : ThreadLog → List (List EventId)
thread_from_init thread = map from_init thread.events

-- the names of a thread's events
abbrev pub keys_of : ThreadLog → List EventKey
keys_of thread = map key_of thread.events

-- each byte is from Init, and the threads follow one another
abbrev pub IsUnknown : List ThreadLog → Witness → Type 0
IsUnknown log w = (w.writers ≡ map thread_from_init log) × (w.order ≡ flat_map keys_of log)

-- what a well-shaped candidate asks of the log alone
pub record HasOwnShape (log : List ThreadLog) (initial : List ℕ) : Type 0 where
  pub few : event_count log ≤ max_events
  pub in_memory : (key : EventKey) (e : Event) → event_in log key ≡ Some e → InMemory initial e
  pub fits : (key : EventKey) (e : Event) → event_in log key ≡ Some e → ValuesFit e

-- a log whose own shape has no fault is well shaped with the witness
abbrev pub IsStart : List ThreadLog → Witness → Type 0
IsStart log w = (initial : List ℕ) → HasOwnShape log initial → IsWellShaped (record { log = log; witness = w; initial = initial })
