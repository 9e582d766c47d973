-- The contents of a transcript's lists, and their capacity.
use Rattle.std.specs.Prelude.{◌≡◌, ℕ, Bool, ◌+◌, ◌<◌, ◌≤◌, List, [], ◌∷◌, ◌++◌, length, map, replicate, slice_get, slice_set, Some, if◌then◌else◌}
use Rattle.wm_event.specs.declared.event.Event.{Event}
use Rattle.wm_event.specs.declared.event.EventId.{EventId}
use Rattle.wm_event.specs.declared.op.OpFields.{OpFields as Op}
use Rattle.wm_event.specs.Event.{key_of}
use Rattle.wm_memory.specs.declared.history_step.HistoryStep.{HistoryStep}
use Rattle.wm_memory.specs.declared.history_step.HistoryStep.TheVariants.{Access, Drain}
use Rattle.wm_recorder.specs.declared.transcript.Parts.{Parts}
use Rattle.wm_recorder.specs.declared.transcript.ThreadRecord.{ThreadRecord}
use Rattle.wm_recorder.specs.declared.transcript.Transcript.{Transcript}

-- the events of each thread
abbrev pub thread_events : List ThreadRecord → List (List Event)
thread_events threads = map (λ r. r.events.items) threads

-- the writers of each event of each thread
abbrev pub thread_writers : List ThreadRecord → List (List (List EventId))
thread_writers threads = map (λ r. r.writers.items) threads

-- for this number of threads, none of which recorded an event
pub record IsBlank (threads : ℕ) (x : Transcript) : Type 0 where
  pub history : x.history.items ≡ []
  pub events : thread_events x.threads.items ≡ replicate threads []
  pub writers : thread_writers x.threads.items ≡ replicate threads []
  pub order : x.order.items ≡ []

pub record SameThread (old new : ThreadRecord) : Type 0 where
  pub events : new.events.items ≡ old.events.items
  pub writers : new.writers.items ≡ old.writers.items

-- only the capacity differs
pub record SameItems (old new : Transcript) : Type 0 where
  pub history : new.history.items ≡ old.history.items
  pub events : thread_events new.threads.items ≡ thread_events old.threads.items
  pub writers : thread_writers new.threads.items ≡ thread_writers old.threads.items
  pub order : new.order.items ≡ old.order.items

-- there is capacity for one more event
pub record HasThreadRoom (r : ThreadRecord) : Type 0 where
  pub events : length r.events.items < r.events.capacity
  pub writers : length r.writers.items < r.writers.capacity

-- the lists are the transcript's
pub record IsPartsOf (x : Transcript) (parts : Parts) : Type 0 where
  pub history : parts.history ≡ x.history.items
  pub events : parts.events ≡ thread_events x.threads.items
  pub writers : parts.writers ≡ thread_writers x.threads.items
  pub order : parts.order ≡ x.order.items

-- there is capacity for an access of t, with a drain before it
pub record HasRoom (t : ℕ) (x : Transcript) : Type 0 where
  pub history : length x.history.items + 2 ≤ x.history.capacity
  pub order : length x.order.items < x.order.capacity
  pub there : t < length x.threads.items
  pub thread : (r : ThreadRecord) → slice_get x.threads.items t ≡ Some r → HasThreadRoom r

-- the steps that an access of t makes, after a drain if one came first
abbrev pub access_items : Bool → ℕ → Op → List HistoryStep
access_items drained t op = if drained then Drain t ∷ Access t op ∷ [] else Access t op ∷ []

-- the event e of an access of t was recorded, with the writers of the bytes that it read
pub record AddsAccessBy (r : ThreadRecord) (drained : Bool) (t : ℕ) (op : Op) (e : Event) (ws : List EventId) (old new : Transcript) : Type 0 where
  pub was : slice_get old.threads.items t ≡ Some r
  pub history : new.history.items ≡ old.history.items ++ access_items drained t op
  pub events : thread_events new.threads.items ≡ slice_set (thread_events old.threads.items) t (r.events.items ++ e ∷ [])
  pub writers : thread_writers new.threads.items ≡ slice_set (thread_writers old.threads.items) t (r.writers.items ++ ws ∷ [])
  pub order : new.order.items ≡ old.order.items ++ key_of e ∷ []

abbrev pub AddsAccess : Bool → ℕ → Op → Event → List EventId → Transcript → Transcript → Type 0
AddsAccess drained t op e ws old new = (r : ThreadRecord) × AddsAccessBy r drained t op e ws old new
