-- The data races of an execution, and how they are listed.
use Rattle.std.specs.Prelude.{◌≡◌, ◌≢◌, ℕ, ◌+◌, ◌<◌, ◌≤◌, ◌⊎◌, List, Some, IsTrue, false, max, slice_get}
use Rattle.std.specs.Option.{option_map_or}
use Rattle.wm_access.specs.AccessWidth.{bytes_of}
use Rattle.wm_event.specs.declared.event.Event.{Event}
use Rattle.wm_event.specs.declared.event.EventKey.{EventKey}
use Rattle.wm_event.specs.declared.event.EventId.TheVariants.{At}
use Rattle.wm_event.specs.Event.{is_atomic, range_of, writes}
use Rattle.wm_event.specs.Execution.{Execution}
use Rattle.wm_event.specs.HappensBefore.{HappensBefore}
use Rattle.wm_races.specs.declared.pair.RacingPair.{RacingPair}

-- the byte at the address is in the event's range
abbrev pub Accesses : Event → ℕ → Type 0
Accesses e address = (e.address ≤ address) × (address < e.address + bytes_of e.width)

-- some byte is in both ranges
abbrev pub Overlap : Event → Event → Type 0
Overlap a b = (address : ℕ) × Accesses a address × Accesses b address

-- one of them is plain, or their ranges differ
abbrev pub IsWeak : Event → Event → Type 0
IsWeak a b = (is_atomic a ≡ false) ⊎ ((is_atomic b ≡ false) ⊎ (range_of a ≢ range_of b))

-- neither happens before the other
abbrev pub IsUnordered : Execution → EventKey → EventKey → Type 0
IsUnordered x a b = (HappensBefore x (At a) (At b) → ⊥) × (HappensBefore x (At b) (At a) → ⊥)

-- two events race: they are different, they overlap, one writes, one is plain or their ranges differ, and neither
-- happens before the other
pub record Race (x : Execution) (a b : EventKey) : Type 0 where
  pub first : Event
  pub second : Event
  pub is_first : x.event_of a ≡ Some first
  pub is_second : x.event_of b ≡ Some second
  pub apart : a ≢ b
  pub overlap : Overlap first second
  pub one_writes : IsTrue (writes first) ⊎ IsTrue (writes second)
  pub weak : IsWeak first second
  pub unordered : IsUnordered x a b

-- how the events of a race are named: `write` writes, and `event` only reads, or comes later in the order than `write`
pub record IsRacingPair (x : Execution) (p : RacingPair) : Type 0 where
  pub race : Race x p.event p.write
  pub write : IsTrue (writes race.second)
  pub event : (writes race.first ≡ false) ⊎ (x.place_of p.write < x.place_of p.event)

abbrev pub address_of : Execution → EventKey → ℕ
address_of x key = option_map_or (λ e. e.address) (x.event_of key) 0

-- the first byte that both access
abbrev pub first_common : Execution → RacingPair → ℕ
first_common x p = max (address_of x p.event) (address_of x p.write)

-- by the event's place, then by the first byte that both access, then by the place of the write
pub data ComesBefore (x : Execution) (p q : RacingPair) : Type 0 where
  by_event : x.place_of p.event < x.place_of q.event → ComesBefore x p q
  by_byte : x.place_of p.event ≡ x.place_of q.event → first_common x p < first_common x q → ComesBefore x p q
  by_write : x.place_of p.event ≡ x.place_of q.event → first_common x p ≡ first_common x q
      → x.place_of p.write < x.place_of q.write → ComesBefore x p q

-- the pair is in the list
abbrev pub IsIn : List RacingPair → RacingPair → Type 0
IsIn pairs p = (n : ℕ) × (slice_get pairs n ≡ Some p)

-- all races of the execution, each once, in that order
pub record IsRaceList (x : Execution) (pairs : List RacingPair) : Type 0 where
  pub sound : (p : RacingPair) → IsIn pairs p → IsRacingPair x p
  pub complete : (a b : EventKey) → Race x a b → IsIn pairs (record { event = a; write = b }) ⊎ IsIn pairs (record { event = b; write = a })
  pub sorted : (m n : ℕ) (p q : RacingPair) → m < n → slice_get pairs m ≡ Some p → slice_get pairs n ≡ Some q → ComesBefore x p q
