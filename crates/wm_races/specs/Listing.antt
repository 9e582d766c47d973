-- The list of a part of the scan.
use Rattle.std.specs.Prelude.{◌≡◌, ◌≢◌, ◌⊎◌, ◌↔◌, false, Bool, IsTrue, ℕ, ◌<◌, List, Option, None, Some, MatchOption, slice_get}
use Rattle.wm_event.specs.declared.event.Event.{Event}
use Rattle.wm_event.specs.declared.event.EventKey.{EventKey}
use Rattle.wm_event.specs.Event.{writes}
use Rattle.wm_event.specs.LoggedRun.{LoggedRun, execution}
use Rattle.wm_races.specs.Races.{ComesBefore, IsIn, IsRacingPair, IsUnordered, first_common}
use Rattle.wm_races.specs.declared.pair.RacingPair.{RacingPair}

-- the racing pairs that P holds of, each once, in their order
pub record Lists (run : LoggedRun) (P : RacingPair → Type 0) (pairs : List RacingPair) : Type 0 where
  pub sound : (n : ℕ) (p : RacingPair) → slice_get pairs n ≡ Some p → IsRacingPair (execution run) p × P p
  pub complete : (p : RacingPair) → IsRacingPair (execution run) p → P p → IsIn pairs p
  pub sorted : (m n : ℕ) (p q : RacingPair) → m < n → slice_get pairs m ≡ Some p → slice_get pairs n ≡ Some q
      → ComesBefore (execution run) p q

abbrev pub event_place : LoggedRun → RacingPair → ℕ
event_place run p = (execution run).place_of p.event

abbrev pub write_place : LoggedRun → RacingPair → ℕ
write_place run p = (execution run).place_of p.write

-- the event that is listed at the place; None if there is none
abbrev pub IsKeyAt : List EventKey → ℕ → Option EventKey → Type 0
IsKeyAt order place result = MatchOption result (slice_get order place ≡ None) (λ key. slice_get order place ≡ Some key)

-- the two places differ, and the event only reads or comes later than the write
abbrev pub IsNamed : Event → ℕ → ℕ → Type 0
IsNamed e place other = (other ≢ place) × ((writes e ≡ false) ⊎ (other < place))

-- whether neither of the events at two places happens before the other
abbrev pub TellsUnordered : LoggedRun → ℕ → ℕ → Bool → Type 0
TellsUnordered run place other result = (a b : EventKey) → slice_get run.witness.order place ≡ Some a → slice_get run.witness.order other ≡ Some b
    → IsTrue result ↔ IsUnordered (execution run) a b

-- a racing pair of the events at these two places, whose first common byte this is
abbrev pub IsPairAt : LoggedRun → ℕ → ℕ → ℕ → RacingPair → Type 0
IsPairAt run place byte other p = IsRacingPair (execution run) p
    × (event_place run p ≡ place) × (first_common (execution run) p ≡ byte) × (write_place run p ≡ other)

-- that pair, or None if there is no such pair
abbrev pub FindsPair : LoggedRun → ℕ → ℕ → ℕ → Option RacingPair → Type 0
FindsPair run place byte other result =
    MatchOption result ((p : RacingPair) → IsPairAt run place byte other p → ⊥) (IsPairAt run place byte other)
