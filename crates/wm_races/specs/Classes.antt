-- The writes of a byte, divided into classes.
use Rattle.std.specs.Prelude.{◌≡◌, ℕ, ◌<◌, List, Option, Some, slice_get, option_and_then, nat_eq, true}
use Rattle.std.specs.Option.{option_map}
use Rattle.indexmap.specs.IndexMap.{get}
use Rattle.wm_event.specs.declared.event.Event.{Event}
use Rattle.wm_event.specs.declared.event.EventKey.{EventKey}
use Rattle.wm_event.specs.declared.log.ThreadLog.{ThreadLog}
use Rattle.wm_event.specs.declared.writes.ByteWrite.{ByteWrite}
use Rattle.wm_event.specs.Event.{is_atomic, range_of}
use Rattle.wm_event.specs.Log.{event_in}
use Rattle.wm_event.specs.LoggedRun.{LoggedRun}
use Rattle.wm_event.specs.Writes.{writes_byte}
use Rattle.wm_races.specs.Report.{site_at}
use Rattle.wm_races.specs.declared.classes.Class.{Class}
use Rattle.wm_races.specs.declared.classes.ClassTable.{ClassTable}
use Rattle.wm_races.specs.declared.classes.Kind.{Kind}
use Rattle.wm_races.specs.declared.site.Site.{Site}

-- what an event has in common with the others of its class
abbrev pub kind_in : List ThreadLog → List (List Site) → EventKey → Option Kind
kind_in log sites key = option_map
    (λ e. record { thread = key.thread; site = site_at sites key; range = range_of e; atomic = is_atomic e }) (event_in log key)

-- the kind of the event at a place
abbrev pub kind_of : LoggedRun → List (List Site) → ℕ → Option Kind
kind_of run sites place = option_and_then (kind_in run.log sites) (slice_get run.witness.order place)

-- the number is among these
abbrev pub IsListed : List ℕ → ℕ → Type 0
IsListed places place = (i : ℕ) × (slice_get places i ≡ Some place)

-- each place comes before those after it
abbrev pub RisePlaces : List ℕ → Type 0
RisePlaces places = (i j m n : ℕ) → i < j → slice_get places i ≡ Some m → slice_get places j ≡ Some n → m < n

-- the places of the writes, among those given, whose event is of a kind
pub record AreMembers (run : LoggedRun) (sites : List (List Site)) (writes : List ByteWrite) (kind : Kind) (places : List ℕ) : Type 0 where
  pub sound : (i o : ℕ) → slice_get places i ≡ Some o
      → (k : ℕ) × ((w : ByteWrite) × (slice_get writes k ≡ Some w) × (w.place ≡ o) × (kind_of run sites o ≡ Some kind))
  pub complete : (k : ℕ) (w : ByteWrite) → slice_get writes k ≡ Some w → kind_of run sites w.place ≡ Some kind → IsListed places w.place
  pub rises : RisePlaces places

-- the kind is in the list
abbrev pub IsAmong : List Kind → Kind → Type 0
IsAmong kinds kind = (n : ℕ) × (slice_get kinds n ≡ Some kind)

-- the kinds of the first of some writes, each once
pub record AreKinds (run : LoggedRun) (sites : List (List Site)) (writes : List ByteWrite) (count : ℕ) (kinds : List Kind) : Type 0 where
  pub once : (m n : ℕ) (kind : Kind) → slice_get kinds m ≡ Some kind → slice_get kinds n ≡ Some kind → m ≡ n
  pub all : (k : ℕ) (w : ByteWrite) (kind : Kind) → k < count → slice_get writes k ≡ Some w → kind_of run sites w.place ≡ Some kind
      → IsAmong kinds kind

-- a write of the byte by an event of this thread and range, atomic or not as stated
pub record IsMember (run : LoggedRun) (byte : ℕ) (kind : Kind) (place : ℕ) : Type 0 where
  pub key : EventKey
  pub event : Event
  pub listed : slice_get run.witness.order place ≡ Some key
  pub there : event_in run.log key ≡ Some event
  pub written : writes_byte run.log byte key ≡ true
  pub thread : key.thread ≡ kind.thread
  pub range : range_of event ≡ kind.range
  pub atomic : is_atomic event ≡ kind.atomic

-- the writes of a class, in the order of their places
pub record IsClass (run : LoggedRun) (byte : ℕ) (c : Class) : Type 0 where
  pub members : (i o : ℕ) → slice_get c.places i ≡ Some o → IsMember run byte c.kind o
  pub rises : RisePlaces c.places

-- each write of the byte is in one of the classes
pub record AreClasses (run : LoggedRun) (byte : ℕ) (classes : List Class) : Type 0 where
  pub each : (n : ℕ) (c : Class) → slice_get classes n ≡ Some c → IsClass run byte c
  pub apart : (m n o : ℕ) (c d : Class) → slice_get classes m ≡ Some c → slice_get classes n ≡ Some d
      → IsListed c.places o → IsListed d.places o → m ≡ n
  pub all : (o : ℕ) (key : EventKey) → slice_get run.witness.order o ≡ Some key → writes_byte run.log byte key ≡ true
      → (n : ℕ) × ((c : Class) × (slice_get classes n ≡ Some c) × IsListed c.places o)

-- the events of a class have one site
abbrev pub AreOfSites : LoggedRun → List (List Site) → List Class → Type 0
AreOfSites run sites classes = (n o : ℕ) (c : Class) (key : EventKey) → slice_get classes n ≡ Some c → IsListed c.places o
    → slice_get run.witness.order o ≡ Some key → site_at sites key ≡ c.kind.site

-- the table has all classes of a byte or none of them
abbrev pub HasClasses : LoggedRun → ClassTable → Type 0
HasClasses run table = (byte : ℕ) (classes : List Class) → get nat_eq table.of_byte byte ≡ Some classes → AreClasses run byte classes

-- the events of each class of the table have one site
abbrev pub HasClassSites : LoggedRun → List (List Site) → ClassTable → Type 0
HasClassSites run sites table = (byte : ℕ) (classes : List Class) → get nat_eq table.of_byte byte ≡ Some classes → AreOfSites run sites classes
