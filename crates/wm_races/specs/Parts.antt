-- The part of a class that races with an event.
use Rattle.std.specs.Prelude.{◌≡◌, ◌≢◌, ◌⊎◌, false, ℕ, ◌<◌, ◌≤◌, List, Option, Some, MatchOption, length, slice_get}
use Rattle.wm_event.specs.declared.event.Event.{Event}
use Rattle.wm_event.specs.declared.event.EventKey.{EventKey}
use Rattle.wm_event.specs.declared.event.EventId.TheVariants.{At}
use Rattle.wm_event.specs.HappensBefore.{HappensBefore}
use Rattle.wm_event.specs.LoggedRun.{LoggedRun, execution}
use Rattle.wm_event.specs.Event.{is_atomic, range_of}
use Rattle.wm_hb.specs.Steps.{StandsAt}
use Rattle.wm_races.specs.Classes.{IsListed}
use Rattle.wm_races.specs.Groups.{IsAtByte}
use Rattle.wm_races.specs.Listing.{IsNamed, Lists, write_place}
use Rattle.wm_races.specs.Races.{IsRacingPair, IsUnordered}
use Rattle.wm_races.specs.declared.classes.Kind.{Kind}
use Rattle.wm_races.specs.declared.group.Group.{Group}
use Rattle.wm_races.specs.declared.pair.RacingPair.{RacingPair}

-- the event at one place happens before the event at another
abbrev pub IsBeforeAt : LoggedRun → ℕ → ℕ → Type 0
IsBeforeAt run m n = (a b : EventKey) → StandsAt run m a → StandsAt run n b → HappensBefore (execution run) (At a) (At b)

-- the event at one place does not happen before the event at another
abbrev pub IsNotBeforeAt : LoggedRun → ℕ → ℕ → Type 0
IsNotBeforeAt run m n = (a b : EventKey) → StandsAt run m a → StandsAt run n b → HappensBefore (execution run) (At a) (At b) → ⊥

-- there are events at the places, and each happens before those after it
pub record AreInSequenceAt (run : LoggedRun) (places : List ℕ) : Type 0 where
  pub listed : (i o : ℕ) → slice_get places i ≡ Some o → (key : EventKey) × StandsAt run o key
  pub sequence : (i j m n : ℕ) → i < j → slice_get places i ≡ Some m → slice_get places j ≡ Some n → IsBeforeAt run m n

-- the event or the events of the kind are plain, or their ranges differ
abbrev pub IsWeakWith : Event → Kind → Type 0
IsWeakWith e kind = (is_atomic e ≡ false) ⊎ ((kind.atomic ≡ false) ⊎ (range_of e ≢ kind.range))

-- P holds of the place at an index
abbrev pub AtIndex : (ℕ → Type 0) → List ℕ → ℕ → Type 0
AtIndex P places i = (o : ℕ) → slice_get places i ≡ Some o → P o

-- P holds of the first of the places, up to this number, and Q of the others
pub record AreParted (P Q : ℕ → Type 0) (places : List ℕ) (count : ℕ) : Type 0 where
  pub bound : count ≤ length places
  pub first : (i o : ℕ) → i < count → slice_get places i ≡ Some o → P o
  pub rest : (i o : ℕ) → count ≤ i → slice_get places i ≡ Some o → Q o

-- neither of the events at two places happens before the other
abbrev pub IsUnorderedAt : LoggedRun → ℕ → ℕ → Type 0
IsUnorderedAt run m n = (a b : EventKey) → StandsAt run m a → StandsAt run n b → IsUnordered (execution run) a b

-- the writes from one index to another are the writes of the races of the event at a place
pub record IsPart (run : LoggedRun) (e : Event) (place : ℕ) (places : List ℕ) (low high : ℕ) : Type 0 where
  pub bound : high ≤ length places
  pub inside : (i o : ℕ) → low ≤ i → i < high → slice_get places i ≡ Some o → IsNamed e place o × IsUnorderedAt run place o
  pub outside : (i o : ℕ) → (i < low) ⊎ (high ≤ i) → slice_get places i ≡ Some o → IsNamed e place o → IsUnorderedAt run place o → ⊥

-- the pairs of the event at a place with writes at some places, whose first common byte this is
abbrev pub IsPairWith : LoggedRun → ℕ → ℕ → List ℕ → RacingPair → Type 0
IsPairWith run place byte places p = IsAtByte run place byte p × IsListed places (write_place run p)

-- the racing pairs that P holds of are the pairs of a group
pub record IsGroupOf (run : LoggedRun) (P : RacingPair → Type 0) (g : Group) : Type 0 where
  pub pairs : List RacingPair
  pub list : Lists run P pairs
  pub first : slice_get pairs 0 ≡ Some g.pair
  pub count : g.count ≡ length pairs
  pub placed : write_place run g.pair ≡ g.place

-- that group, or None if there is no such racing pair
abbrev pub FindsGroup : LoggedRun → (RacingPair → Type 0) → Option Group → Type 0
FindsGroup run P result = MatchOption result ((p : RacingPair) → IsRacingPair (execution run) p → P p → ⊥) (IsGroupOf run P)
