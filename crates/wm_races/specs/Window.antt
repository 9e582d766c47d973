-- Which writes of a byte may race with an event.
use Rattle.std.specs.Prelude.{◌≡◌, ℕ, ◌<◌, ◌%◌, List, Some, IsTrue, nat_eq, slice_get, true}
use Rattle.std.specs.HashSet.{contains}
use Rattle.wm_event.specs.declared.event.Event.{Event}
use Rattle.wm_event.specs.declared.event.EventKey.{EventKey}
use Rattle.wm_event.specs.declared.writes.ByteWrite.{ByteWrite}
use Rattle.wm_event.specs.Event.{writes}
use Rattle.wm_event.specs.Log.{event_in}
use Rattle.wm_event.specs.LoggedRun.{LoggedRun, execution}
use Rattle.wm_event.specs.Writes.{writes_byte}
use Rattle.wm_races.specs.Listing.{event_place, write_place}
use Rattle.wm_races.specs.Races.{IsRacingPair, first_common}
use Rattle.wm_races.specs.declared.begins.Begins.{Begins}
use Rattle.wm_races.specs.declared.pair.RacingPair.{RacingPair}
use Rattle.wm_races.specs.declared.remainders.Remainders.{Remainders}

-- an address has one of the remainders
abbrev pub IsOfRemainder : Remainders → ℕ → Type 0
IsOfRemainder remainders address = slice_get remainders.taken (address % 64) ≡ Some true

pub record IsAmongBegins (begins : Begins) (address : ℕ) : Type 0 where
  pub among : IsTrue (contains nat_eq begins.addresses address)
  pub remainder : IsOfRemainder begins.remainders address

-- each address at which a write of the run begins is among these
abbrev pub HasBegins : LoggedRun → Begins → Type 0
HasBegins run begins = (key : EventKey) (e : Event) → event_in run.log key ≡ Some e → IsTrue (writes e) → IsAmongBegins begins e.address

-- there is a write at the place
abbrev pub IsWriteAt : List ByteWrite → ℕ → Type 0
IsWriteAt writes place = (i : ℕ) × ((w : ByteWrite) × (slice_get writes i ≡ Some w) × (w.place ≡ place))

-- writes of the byte, each before the next; the write of each racing pair of the event at a place, whose first common byte
-- this is, is one of them
pub record AreRacingWrites (run : LoggedRun) (place byte : ℕ) (writes : List ByteWrite) : Type 0 where
  pub written : (i : ℕ) (w : ByteWrite) (key : EventKey) → slice_get writes i ≡ Some w → slice_get run.witness.order w.place ≡ Some key
      → writes_byte run.log byte key ≡ true
  pub rises : (i j : ℕ) (v w : ByteWrite) → i < j → slice_get writes i ≡ Some v → slice_get writes j ≡ Some w → v.place < w.place
  pub all : (p : RacingPair) → IsRacingPair (execution run) p → event_place run p ≡ place → first_common (execution run) p ≡ byte
      → IsWriteAt writes (write_place run p)
