-- What stands before the events of a state in the order of each execution that has them and the next one.
use Rattle.std.specs.Prelude.{◌≡◌, ℕ, ◌<◌, ◌⊎◌, List, [], Option, Some, IsSome, IsTrue, ⊤, length, slice_get}
use Rattle.wm_event.specs.Event.{is_atomic, key_of, range_of}
use Rattle.wm_event.specs.Execution.{place}
use Rattle.wm_event.specs.Log.{event_in}
use Rattle.wm_event.specs.LoggedRun.{LoggedRun, execution}
use Rattle.wm_event.specs.declared.event.Event.{Event}
use Rattle.wm_event.specs.declared.event.EventId.{EventId}
use Rattle.wm_event.specs.declared.event.EventId.TheVariants.{Init, At}
use Rattle.wm_event.specs.declared.event.EventKey.{EventKey}
use Rattle.wm_explore.specs.Clocks.{Counts}
use Rattle.wm_explore.specs.Past.{AreKnownWith, FindsPast, IsStanding, IsUpdateLike, KnowsPast, StandsAfter, TakesNext, WouldSynchronize}
use Rattle.wm_explore.specs.declared.clock.Clock.{Clock}
use Rattle.wm_explore.specs.declared.past.Past.{Past}
use Rattle.wm_explore.specs.declared.state.State.{State}

-- ---- before the next event

-- what the clock counts stands before e, or is e, in each execution that has e next
abbrev pub AreBeforeNext : List ℕ → State → Event → Clock → Type 0
AreBeforeNext initial s e c = (x : LoggedRun) → TakesNext initial s e x → IsStanding x (key_of e) c

-- if what c counts is so, what d counts is
abbrev pub KeepsBeforeNext : State → Event → Clock → Clock → Type 0
KeepsBeforeNext s e c d = (initial : List ℕ) → KnowsPast initial s → AreBeforeNext initial s e c → AreBeforeNext initial s e d

abbrev pub CountsSource : Clock → EventId → Type 0
CountsSource c Init = ⊤
CountsSource c (At w) = Counts c w

-- an atomic read of the range of e arrived at this place, and takes its lowest byte from a source that c counts
pub record IsReadBefore (s : State) (e : Event) (place : ℕ) (c : Clock) : Type 0 where
  pub past : Past
  pub at_past : slice_get s.pasts place ≡ Some past
  pub source : EventId
  pub from : past.source ≡ Some source
  pub key : EventKey
  pub at : slice_get s.arrived place ≡ Some key
  pub event : Event
  pub at_event : event_in s.log key ≡ Some event
  pub atomic : IsTrue (is_atomic event)
  pub same : range_of event ≡ range_of e
  pub like : WouldSynchronize s.log event source
  pub counted : CountsSource c source

-- ---- after the next event

-- an atomic write of the range of e, which arrived at this place, stands after w
pub record IsLaterWrite (s : State) (e : Event) (w : EventId) (place : ℕ) (key : EventKey) : Type 0 where
  pub at : slice_get s.arrived place ≡ Some key
  pub like : IsUpdateLike s.log e key
  pub after : StandsAfter s place key w

-- e is atomic and would synchronize with w, and each of these is a later write
pub record AreLaterWrites (s : State) (e : Event) (w : EventId) (keys : List EventKey) : Type 0 where
  pub atomic : IsTrue (is_atomic e)
  pub source : WouldSynchronize s.log e w
  pub each : (i : ℕ) (key : EventKey) → slice_get keys i ≡ Some key → (place : ℕ) × IsLaterWrite s e w place key

-- no keys, or later writes than the source that is given
abbrev pub AreOverwriting : State → Event → Option EventId → List EventKey → Type 0
AreOverwriting s e source keys = (keys ≡ []) ⊎ ((w : EventId) × (source ≡ Some w) × AreLaterWrites s e w keys)

-- b stands before each of these
abbrev pub IsBeforeAll : LoggedRun → EventKey → List EventKey → Type 0
IsBeforeAll x b keys = (i : ℕ) (key : EventKey) → slice_get keys i ≡ Some key → IsSome (event_in x.log key) × (place (execution x) (At b) < place (execution x) (At key))

-- the clock counts one of them
abbrev pub CountsAny : Clock → List EventKey → Type 0
CountsAny c keys = (i : ℕ) × (key : EventKey) × (slice_get keys i ≡ Some key) × Counts c key

-- what surely holds of the events of s and e, if p holds of e
abbrev pub AreKnownBy : State → Event → Past → List Past → Type 0
AreKnownBy s e p pasts = (initial : List ℕ) → KnowsPast initial s → FindsPast initial s e (Some p) → AreKnownWith initial s e pasts

-- q is p, or p and the clock c, if p counts one of these as standing before it
pub record IsRaised (keys : List EventKey) (c : Clock) (p q : Past) : Type 0 where
  pub clock : q.clock ≡ p.clock
  pub source : q.source ≡ p.source
  pub order : (a : EventKey) → Counts q.order a → Counts p.order a ⊎ (CountsAny p.order keys × Counts c a)

pub record AreRaised (keys : List EventKey) (c : Clock) (ps qs : List Past) : Type 0 where
  pub count : length qs ≡ length ps
  pub each : (i : ℕ) (p q : Past) → slice_get ps i ≡ Some p → slice_get qs i ≡ Some q → IsRaised keys c p q
