-- What surely holds of the events of a state: in each execution that has them.
use Rattle.std.specs.Prelude.{◌≡◌, ◌≢◌, ℕ, ◌+◌, ◌<◌, ◌≤◌, ◌⊎◌, List, [], ◌∷◌, ◌++◌, Option, None, Some, IsSome, IsTrue, ⊤, length, slice_get}
use Rattle.wm_access.specs.AccessWidth.{bytes_of}
use Rattle.wm_event.specs.Byte.{byte_of}
use Rattle.wm_event.specs.Event.{is_atomic, key_of, range_of, writes}
use Rattle.wm_event.specs.Execution.{ReadsFrom, place}
use Rattle.wm_event.specs.HappensBefore.{HappensBefore}
use Rattle.wm_event.specs.Log.{event_in}
use Rattle.wm_event.specs.LoggedRun.{LoggedRun, execution}
use Rattle.wm_event.specs.Rules.{IsTearFree, IsValid}
use Rattle.wm_event.specs.Shape.{IsWellShaped}
use Rattle.wm_event.specs.declared.event.Event.{Event}
use Rattle.wm_event.specs.declared.event.EventId.{EventId}
use Rattle.wm_event.specs.declared.event.EventId.TheVariants.{Init, At}
use Rattle.wm_event.specs.declared.event.EventKey.{EventKey}
use Rattle.wm_event.specs.declared.log.ThreadLog.{ThreadLog}
use Rattle.wm_explore.specs.Clocks.{Counts}
use Rattle.wm_explore.specs.States.{HasArrived}
use Rattle.wm_explore.specs.Values.{byte_left}
use Rattle.wm_explore.specs.declared.clock.Clock.{Clock}
use Rattle.wm_explore.specs.declared.past.Past.{Past}
use Rattle.wm_explore.specs.declared.state.State.{State}

-- ---- executions

-- x is valid over this memory, and has the events of the state, which take their bytes from events that arrived before them
pub record HasState (initial : List ℕ) (s : State) (x : LoggedRun) : Type 0 where
  pub memory : x.initial ≡ initial
  pub shaped : IsWellShaped x
  pub valid : IsValid (execution x)
  pub there : (i : ℕ) (key : EventKey) → slice_get s.arrived i ≡ Some key → IsSome (event_in s.log key)
  pub events : (key : EventKey) (e : Event) → event_in s.log key ≡ Some e → event_in x.log key ≡ Some e
  pub back : (i : ℕ) (r w : EventKey) (k : ℕ) → slice_get s.arrived i ≡ Some r → ReadsFrom (execution x) r k (At w) → HasArrived s.arrived i w

-- and it has e too, which is none of those, and takes its bytes from events that have arrived
pub record TakesNext (initial : List ℕ) (s : State) (e : Event) (x : LoggedRun) : Type 0 where
  pub has : HasState initial s x
  pub new : IsSome (event_in s.log (key_of e)) → ⊥
  pub next : event_in x.log (key_of e) ≡ Some e
  pub from : (k : ℕ) (w : EventKey) → ReadsFrom (execution x) (key_of e) k (At w) → HasArrived s.arrived (length s.arrived) w

-- what the clock counts happens before b
abbrev pub IsBefore : LoggedRun → EventKey → Clock → Type 0
IsBefore x b c = (a : EventKey) → Counts c a → IsSome (event_in x.log a) → HappensBefore (execution x) (At a) (At b)

-- or is b
abbrev pub IsPast : LoggedRun → EventKey → Clock → Type 0
IsPast x b c = (a : EventKey) → Counts c a → IsSome (event_in x.log a) → (a ≡ b) ⊎ HappensBefore (execution x) (At a) (At b)

-- what the clock counts stands before b in the order
abbrev pub IsAhead : LoggedRun → EventKey → Clock → Type 0
IsAhead x b c = (a : EventKey) → Counts c a → IsSome (event_in x.log a) → place (execution x) (At a) < place (execution x) (At b)

-- or is b
abbrev pub IsStanding : LoggedRun → EventKey → Clock → Type 0
IsStanding x b c = (a : EventKey) → Counts c a → IsSome (event_in x.log a) → (a ≡ b) ⊎ (place (execution x) (At a) < place (execution x) (At b))

-- the lowest byte of b is from the source that is given, if one is
abbrev pub IsFrom : LoggedRun → EventKey → Option EventId → Type 0
IsFrom x b None = ⊤
IsFrom x b (Some w) = ReadsFrom (execution x) b 0 w

-- p holds of b
abbrev pub IsPastOf : LoggedRun → EventKey → Past → Type 0
IsPastOf x b p = IsPast x b p.clock × IsStanding x b p.order × IsFrom x b p.source

-- for each event that has arrived there is something that surely holds of it
pub record KnowsPast (initial : List ℕ) (s : State) : Type 0 where
  pub count : length s.pasts ≡ length s.arrived
  pub past : (x : LoggedRun) → HasState initial s x → (i : ℕ) (b : EventKey) (p : Past) → slice_get s.arrived i ≡ Some b → slice_get s.pasts i ≡ Some p → IsPastOf x b p

-- it takes some byte of e from an event that the mark of e's thread doesn't count, if there is one
abbrev pub KeepsMark : State → Event → LoggedRun → Type 0
KeepsMark s e x = (n : ℕ) → slice_get s.marks e.thread ≡ Some (Some n) → (k : ℕ) × (w : EventKey) × ReadsFrom (execution x) (key_of e) k (At w) × (HasArrived s.arrived n w → ⊥)

-- None: no execution that keeps the mark has e next; or what surely holds of it
abbrev pub FindsPast : List ℕ → State → Event → Option Past → Type 0
FindsPast initial s e None = (x : LoggedRun) → TakesNext initial s e x → KeepsMark s e x → ⊥
FindsPast initial s e (Some p) = (x : LoggedRun) → TakesNext initial s e x → IsPastOf x (key_of e) p

-- for each event that has arrived, and e, what surely holds of it if e is next
pub record AreKnownWith (initial : List ℕ) (s : State) (e : Event) (pasts : List Past) : Type 0 where
  pub count : length pasts ≡ length s.arrived + 1
  pub past : (x : LoggedRun) → TakesNext initial s e x → (i : ℕ) (b : EventKey) (p : Past) → slice_get (s.arrived ++ key_of e ∷ []) i ≡ Some b → slice_get pasts i ≡ Some p → IsPastOf x b p

-- None: no execution that keeps the mark has e next; or what surely holds then
abbrev pub FindsPasts : List ℕ → State → Event → Option (List Past) → Type 0
FindsPasts initial s e None = FindsPast initial s e None
FindsPasts initial s e (Some pasts) = AreKnownWith initial s e pasts

-- ---- the next event's thread

-- p is what surely holds of an earlier event of b's thread
pub record IsEarlier (s : State) (b : EventKey) (p : Past) : Type 0 where
  pub place : ℕ
  pub key : EventKey
  pub at : slice_get s.arrived place ≡ Some key
  pub at_past : slice_get s.pasts place ≡ Some p
  pub same : key.thread ≡ b.thread
  pub less : key.number < b.number

-- its clocks count nothing
abbrev pub CountsNothing : Past → Type 0
CountsNothing p = ((a : EventKey) → Counts p.clock a → ⊥) × ((a : EventKey) → Counts p.order a → ⊥)

abbrev pub IsThreadPast : State → EventKey → Past → Type 0
IsThreadPast s b p = CountsNothing p ⊎ IsEarlier s b p

-- ---- sources of the next event's bytes

abbrev pub IsSource : State → EventId → Type 0
IsSource s Init = ⊤
IsSource s (At w) = HasArrived s.arrived (length s.arrived) w

-- the byte that a source left at an address
abbrev pub left_by : List ℕ → List ThreadLog → EventId → ℕ → Option ℕ
left_by initial log Init a = slice_get initial a
left_by initial log (At w) a = byte_left log w a

-- the event that arrived at this place, which is key, comes after w
abbrev pub IsAfter : State → ℕ → EventKey → EventId → Type 0
IsAfter s place key Init = ⊤
IsAfter s place key (At w) = (w ≢ key) × (p : Past) × (slice_get s.pasts place ≡ Some p) × Counts p.clock w

-- the event that arrived at this place writes the address, after the source w and before what c is the past of
pub record Hides (s : State) (c : Clock) (place : ℕ) (w : EventId) (a : ℕ) : Type 0 where
  pub key : EventKey
  pub at : slice_get s.arrived place ≡ Some key
  pub counted : Counts c key
  pub writes : IsSome (byte_left s.log key a)
  pub after : IsAfter s place key w

-- byte k of e isn't from w
abbrev pub CannotGive : List ℕ → State → Clock → Event → ℕ → EventId → Type 0
CannotGive initial s c e k w = (left_by initial s.log w (e.address + k) ≢ Some (byte_of e.read k)) ⊎ ((place : ℕ) × Hides s c place w (e.address + k))

-- w is a tear-free event with the range of e
pub record IsLike (log : List ThreadLog) (e : Event) (w : EventId) : Type 0 where
  pub key : EventKey
  pub event : Event
  pub is : w ≡ At key
  pub at : event_in log key ≡ Some event
  pub free : IsTearFree event
  pub same : range_of event ≡ range_of e

-- both are tear-free events with the range of e, which is tear-free
pub record WouldTear (log : List ThreadLog) (e : Event) (w u : EventId) : Type 0 where
  pub free : IsTearFree e
  pub first : IsLike log e w
  pub second : IsLike log e u
  pub other : u ≢ w

-- w is Init, or is atomic and has the range of e
abbrev pub WouldSynchronize : List ThreadLog → Event → EventId → Type 0
WouldSynchronize log e Init = ⊤
WouldSynchronize log e (At w) = (f : Event) × (event_in log w ≡ Some f) × IsTrue (is_atomic f) × (range_of f ≡ range_of e)

-- u arrived at this place, and comes after w
pub record ComesAfter (s : State) (place : ℕ) (u w : EventId) : Type 0 where
  pub key : EventKey
  pub is : u ≡ At key
  pub at : slice_get s.arrived place ≡ Some key
  pub after : IsAfter s place key w

-- e is atomic and would synchronize with u, which comes after w, and so writes each byte of e that w writes
pub record Overwrites (s : State) (e : Event) (u w : EventId) : Type 0 where
  pub atomic : IsTrue (is_atomic e)
  pub like : WouldSynchronize s.log e u
  pub place : ℕ
  pub later : ComesAfter s place u w

-- e doesn't take bytes from both
abbrev pub AreApart : State → Event → EventId → EventId → Type 0
AreApart s e w u = WouldTear s.log e w u ⊎ (Overwrites s e w u ⊎ Overwrites s e u w)

-- byte k of e isn't from u if another is from w
abbrev pub CannotGiveBeside : List ℕ → State → Clock → Event → EventId → ℕ → EventId → Type 0
CannotGiveBeside initial s c e w k u = AreApart s e w u ⊎ CannotGive initial s c e k u

-- byte k of e is from nothing if another is from w
abbrev pub HasNoSource : List ℕ → State → Clock → Event → EventId → ℕ → Type 0
HasNoSource initial s c e w k = (u : EventId) → IsSource s u → CannotGiveBeside initial s c e w k u

-- byte k of e isn't from w, alone or since some byte would be from nothing
abbrev pub CannotTake : List ℕ → State → Clock → Event → ℕ → EventId → Type 0
CannotTake initial s c e k w = CannotGive initial s c e k w ⊎ ((j : ℕ) × (j < bytes_of e.width) × HasNoSource initial s c e w j)

-- no byte of e is from w
abbrev pub TakesNothing : List ℕ → State → Clock → Event → EventId → Type 0
TakesNothing initial s c e w = (k : ℕ) → k < bytes_of e.width → CannotTake initial s c e k w

-- or from an event that is not among the first n that arrived
abbrev pub TakesNothingNew : List ℕ → State → Clock → Event → ℕ → Type 0
TakesNothingNew initial s c e n = (i : ℕ) (w : EventKey) → n ≤ i → slice_get s.arrived i ≡ Some w → TakesNothing initial s c e (At w)

-- the thread of e is marked, and e is not what the mark asks for
abbrev pub BreaksMark : List ℕ → State → Clock → Event → Type 0
BreaksMark initial s c e = (n : ℕ) × (slice_get s.marks e.thread ≡ Some (Some n)) × TakesNothingNew initial s c e n

-- an atomic event that writes, with the range of e
pub record IsUpdateLike (log : List ThreadLog) (e : Event) (key : EventKey) : Type 0 where
  pub event : Event
  pub at_event : event_in log key ≡ Some event
  pub atomic : IsTrue (is_atomic event)
  pub writing : IsTrue (writes event)
  pub same : range_of event ≡ range_of e

-- such an event arrived at this place, and surely takes its lowest byte from w
pub record IsRival (s : State) (e : Event) (place : ℕ) (w : EventId) : Type 0 where
  pub past : Past
  pub at_past : slice_get s.pasts place ≡ Some past
  pub from : past.source ≡ Some w
  pub key : EventKey
  pub at : slice_get s.arrived place ≡ Some key
  pub like : IsUpdateLike s.log e key

-- e is an atomic update, and another one of its range surely takes its lowest byte from w
pub record IsTaken (s : State) (e : Event) (w : EventId) : Type 0 where
  pub atomic : IsTrue (is_atomic e)
  pub writing : IsTrue (writes e)
  pub source : WouldSynchronize s.log e w
  pub place : ℕ
  pub rival : IsRival s e place w

-- the event that arrived at this place, which is key, stands after w in the order
abbrev pub StandsAfter : State → ℕ → EventKey → EventId → Type 0
StandsAfter s place key Init = ⊤
StandsAfter s place key (At w) = (w ≢ key) × (p : Past) × (slice_get s.pasts place ≡ Some p) × Counts p.order w

-- an atomic write of the range of e arrived at this place, which c counts, and which stands after w
pub record StandsBetween (s : State) (c : Clock) (e : Event) (place : ℕ) (w : EventId) : Type 0 where
  pub key : EventKey
  pub at : slice_get s.arrived place ≡ Some key
  pub counted : Counts c key
  pub like : IsUpdateLike s.log e key
  pub after : StandsAfter s place key w

-- e is atomic and would synchronize with w, but such a write stands between them
pub record IsOvertaken (s : State) (c : Clock) (e : Event) (w : EventId) : Type 0 where
  pub atomic : IsTrue (is_atomic e)
  pub source : WouldSynchronize s.log e w
  pub place : ℕ
  pub write : StandsBetween s c e place w

-- the lowest byte of e isn't from w
abbrev pub CannotBegin : List ℕ → State → Past → Event → EventId → Type 0
CannotBegin initial s p e w = CannotGive initial s p.clock e 0 w ⊎ (IsTaken s e w ⊎ (IsOvertaken s p.order e w ⊎ ((k : ℕ) × (k < bytes_of e.width) × HasNoSource initial s p.clock e w k)))

-- e synchronizes with key, which arrived at this place, if it takes a byte from it; and p is what surely holds of key
pub record Synchronizes (s : State) (e : Event) (place : ℕ) (key : EventKey) (p : Past) : Type 0 where
  pub event : Event
  pub at_past : slice_get s.pasts place ≡ Some p
  pub at_event : event_in s.log key ≡ Some event
  pub writer : IsTrue (is_atomic event)
  pub reader : IsTrue (is_atomic e)
  pub ranges : range_of event ≡ range_of e

-- what p counts comes before e if its lowest byte is from key, which arrived at this place
abbrev pub AreGainedAt : State → Event → ℕ → EventKey → Past → Type 0
AreGainedAt s e place key p = CountsNothing p ⊎ Synchronizes s e place key p

-- if it is from w, e synchronizes with it, and a is counted by this clock of what surely holds of w
abbrev pub IsGained : (Past → Clock) → State → Event → EventId → EventKey → Type 0
IsGained clock_of s e w a = (place : ℕ) × (key : EventKey) × (w ≡ At key) × (slice_get s.arrived place ≡ Some key) × (p : Past) × Synchronizes s e place key p × Counts (clock_of p) a

-- what p counts comes before e if its lowest byte is from w
pub record AreGained (s : State) (e : Event) (w : EventId) (p : Past) : Type 0 where
  pub clock : (a : EventKey) → Counts p.clock a → IsGained (λ q. q.clock) s e w a
  pub order : (a : EventKey) → Counts p.order a → IsGained (λ q. q.order) s e w a

-- w is the one that is given, if one is
abbrev pub IsOnly : EventId → Option EventId → Type 0
IsOnly w None = ⊤
IsOnly w (Some only) = w ≡ only

-- None: the lowest byte isn't from w; or it isn't, or p holds where it is
abbrev pub FindsFor : List ℕ → State → Past → Event → Option Past → EventId → Type 0
FindsFor initial s before e None w = CannotBegin initial s before e w
FindsFor initial s before e (Some p) w = CannotBegin initial s before e w ⊎ (AreGained s e w p × IsOnly w p.source)

-- the same of each source
abbrev pub FindsCommon : List ℕ → State → Past → Event → Option Past → Type 0
FindsCommon initial s before e common = (w : EventId) → IsSource s w → FindsFor initial s before e common w
