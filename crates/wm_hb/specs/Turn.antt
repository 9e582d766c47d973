-- Where a row of items turns.
use Rattle.std.specs.Prelude.{ℕ, ◌<◌, ◌≤◌}

-- of the first items of a row: before an early one all are early, and after a late one all are late
pub record TurnsOnce (Early Late : ℕ → Type 0) (count : ℕ) : Type 0 where
  pub falls : (i j : ℕ) → i < j → j < count → Early j → Early i
  pub rises : (i j : ℕ) → i < j → j < count → Late i → Late j

-- the items below the turn are early, the others late
pub record IsTurn (Early Late : ℕ → Type 0) (count turn : ℕ) : Type 0 where
  pub bound : turn ≤ count
  pub first : (i : ℕ) → i < turn → Early i
  pub rest : (i : ℕ) → turn ≤ i → i < count → Late i
