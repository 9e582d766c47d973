-- Events each of which happens before the next ones.
use Rattle.std.specs.Prelude.{◌≡◌, ℕ, ◌<◌, ◌≤◌, List, Some, slice_get}
use Rattle.wm_event.specs.declared.event.EventId.{EventId}
use Rattle.wm_event.specs.Execution.{Execution}
use Rattle.wm_event.specs.HappensBefore.{HappensBefore}

-- each happens before those after it
abbrev pub AreInSequence : Execution → List EventId → Type 0
AreInSequence x ids = (i j : ℕ) (a b : EventId) → i < j → slice_get ids i ≡ Some a → slice_get ids j ≡ Some b → HappensBefore x a b

-- among the ids, T holds from the n-th on, and of none before it
pub record HoldsFrom (T : EventId → Type 0) (ids : List EventId) (n : ℕ) : Type 0 where
  pub fails : (i : ℕ) (v : EventId) → i < n → slice_get ids i ≡ Some v → T v → ⊥
  pub holds : (i : ℕ) (v : EventId) → n ≤ i → slice_get ids i ≡ Some v → T v

-- P holds of the n-th of the ids
abbrev pub HasInRow : (EventId → Type 0) → List EventId → ℕ → Type 0
HasInRow P ids n = (v : EventId) → slice_get ids n ≡ Some v → P v

-- P does not hold of the n-th of the ids
abbrev pub NoneInRow : (EventId → Type 0) → List EventId → ℕ → Type 0
NoneInRow P ids n = (v : EventId) → slice_get ids n ≡ Some v → P v → ⊥
