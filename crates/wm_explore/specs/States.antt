-- States of an exploration, and the executions that go on from them.
use Rattle.std.specs.Prelude.{◌≡◌, ◌≢◌, ℕ, zero, suc, ◌<◌, ◌≤◌, ◌⊎◌, List, [], ◌∷◌, ◌++◌, Option, None, Some, IsSome, length, slice_get, take}
use Rattle.std.specs.Option.{option_map_or}
use Rattle.wm_event.specs.Event.{key_of}
use Rattle.wm_event.specs.Execution.{ReadsFrom}
use Rattle.wm_event.specs.Log.{event_in}
use Rattle.wm_event.specs.LoggedRun.{LoggedRun, execution}
use Rattle.wm_event.specs.declared.event.Event.{Event}
use Rattle.wm_event.specs.declared.event.EventId.TheVariants.{At}
use Rattle.wm_event.specs.declared.event.EventKey.{EventKey}
use Rattle.wm_event.specs.declared.log.Start.{Start}
use Rattle.wm_event.specs.declared.log.ThreadLog.{ThreadLog}
use Rattle.wm_explore.specs.Executions.{starts_of}
use Rattle.wm_explore.specs.Judging.{LooksBack}
use Rattle.wm_explore.specs.declared.state.State.{State}
use Rattle.wm_part.specs.Cut.{is_kept}
use Rattle.wm_part.specs.Part.{HasItsWriters}

-- ---- one more event

abbrev pub with_last : ThreadLog → Event → ThreadLog
with_last t e = record { start = t.start; end = t.end; steps = t.steps; events = t.events ++ e ∷ [] }

-- the log in which thread k has one more event
abbrev pub extended : ℕ → Event → List ThreadLog → List ThreadLog
extended k e [] = []
extended zero e (t ∷ ts) = with_last t e ∷ ts
extended (suc k) e (t ∷ ts) = t ∷ extended k e ts

-- each mark is this one if it is of this thread, and else the old one
abbrev pub IsMarked : ℕ → Option ℕ → List (Option ℕ) → List (Option ℕ) → Type 0
IsMarked thread mark old new = (k : ℕ) (m : Option ℕ) → slice_get new k ≡ Some m → ((k ≡ thread) × (m ≡ mark)) ⊎ ((k ≢ thread) × (slice_get old k ≡ Some m))

-- the state in which thread k has one more event, of which nothing is known
pub record IsChild (k : ℕ) (e : Event) (old new : State) : Type 0 where
  pub log : new.log ≡ extended k e old.log
  pub arrived : new.arrived ≡ old.arrived ++ key_of e ∷ []
  pub marks : IsMarked k None old.marks new.marks

-- two states that differ at most in what nothing rests on
pub record IsAlike (s t : State) : Type 0 where
  pub log : t.log ≡ s.log
  pub arrived : t.arrived ≡ s.arrived
  pub marks : t.marks ≡ s.marks
  pub pasts : t.pasts ≡ s.pasts
  pub known : t.known ≡ s.known

-- ---- what goes on from a state

-- the threads of log are started as those of whole, and have their first events
pub record IsBeginning (log whole : List ThreadLog) : Type 0 where
  pub count : length log ≡ length whole
  pub starts : (k : ℕ) (t u : ThreadLog) → slice_get log k ≡ Some t → slice_get whole k ≡ Some u → u.start ≡ t.start
  pub events : (k : ℕ) (t u : ThreadLog) → slice_get log k ≡ Some t → slice_get whole k ≡ Some u → t.events ≡ take (length t.events) u.events

-- how many events thread k has
abbrev pub count_in : List ThreadLog → ℕ → ℕ
count_in log k = option_map_or (λ t. length t.events) (slice_get log k) 0

-- the event is among the first n that arrived
abbrev pub HasArrived : List EventKey → ℕ → EventKey → Type 0
HasArrived arrived n key = (i : ℕ) × (i < n) × (slice_get arrived i ≡ Some key)

-- some byte of the next event of thread k is from an event that is not among the first n that arrived
abbrev pub IsMissed : LoggedRun → State → ℕ → ℕ → Type 0
IsMissed x s k n = (byte : ℕ) × (w : EventKey) × ReadsFrom (execution x) record { thread = k; number = count_in s.log k } byte (At w) × (HasArrived s.arrived n w → ⊥)

-- x has the state's events first, with the events that wrote their bytes, which arrived before them, and its marks hold
pub record GoesOn (x : LoggedRun) (s : State) : Type 0 where
  pub beginning : IsBeginning s.log x.log
  pub writers : HasItsWriters (execution x) (is_kept (count_in s.log))
  pub back : LooksBack (execution x) s.arrived
  pub marks : (k n : ℕ) → slice_get s.marks k ≡ Some (Some n) → IsMissed x s k n

-- of two events of a thread the later one did not arrive earlier
abbrev pub ArriveInOrder : List EventKey → Type 0
ArriveInOrder arrived = (i j : ℕ) (a b : EventKey) → slice_get arrived i ≡ Some a → slice_get arrived j ≡ Some b → a.thread ≡ b.thread → a.number ≤ b.number → i ≤ j

-- the threads are started so, the events that have arrived are those of the log, in the order of their threads, and a mark
-- counts some of them
pub record IsState (starts : List Start) (s : State) : Type 0 where
  pub started : starts_of s.log ≡ starts
  pub listed : (key : EventKey) → IsSome (event_in s.log key) → (i : ℕ) × (slice_get s.arrived i ≡ Some key)
  pub events : (i : ℕ) (key : EventKey) → slice_get s.arrived i ≡ Some key → IsSome (event_in s.log key)
  pub in_order : ArriveInOrder s.arrived
  pub marked : (k n : ℕ) → slice_get s.marks k ≡ Some (Some n) → n ≤ length s.arrived
