-- The event that the order lists first among those with some property.
use Rattle.std.specs.Prelude.{◌≡◌, ℕ, ◌<◌, ◌≤◌, Option, None, Some, ltb, if◌then◌else◌}
use Rattle.wm_event.specs.declared.event.EventKey.{EventKey}
use Rattle.wm_event.specs.declared.event.EventId.TheVariants.{At}
use Rattle.wm_event.specs.Execution.{Execution, place}

-- among the events that P holds of, the one that the order lists first, or None if there is no such event
abbrev pub FindsEarliest : Execution → (EventKey → Type 0) → Option EventKey → Type 0
FindsEarliest x P None = (v : EventKey) → P v → ⊥
FindsEarliest x P (Some key) = P key × ((v : EventKey) → P v → place x (At key) ≤ place x (At v))

-- whichever of two the order lists first
abbrev pub earlier_of : Execution → Option EventKey → Option EventKey → Option EventKey
earlier_of x None second = second
earlier_of x (Some a) None = Some a
earlier_of x (Some a) (Some b) = if ltb (place x (At b)) (place x (At a)) then Some b else Some a

-- v is an event of thread t that P holds of
abbrev pub IsInThread : ℕ → (EventKey → Type 0) → EventKey → Type 0
IsInThread t P v = (v.thread ≡ t) × P v

-- among thread t's events that P holds of, the one that the order lists first
abbrev pub FindsInThread : Execution → ℕ → (EventKey → Type 0) → Option EventKey → Type 0
FindsInThread x t P result = FindsEarliest x (IsInThread t P) result

-- v is such an event of one of the first n threads
abbrev pub IsBelow : ℕ → (EventKey → Type 0) → EventKey → Type 0
IsBelow n P v = (v.thread < n) × P v

-- among the first n threads' events that P holds of, the one that the order lists first
abbrev pub FindsBelow : Execution → ℕ → (EventKey → Type 0) → Option EventKey → Type 0
FindsBelow x n P result = FindsEarliest x (IsBelow n P) result
