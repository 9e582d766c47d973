-- What is added next to a state.
use Rattle.std.specs.Prelude.{◌≡◌, ◌≢◌, ℕ, ◌<◌, ◌≤◌, ◌⊎◌, Bool, true, false, List, Option, None, Some, length, slice_get, nat_lt, if◌then◌else◌, option_and_then}
use Rattle.wm_ast.specs.declared.module.Module.{Module}
use Rattle.wm_event.specs.Log.{event_in}
use Rattle.wm_event.specs.Op.{kind_finds}
use Rattle.wm_event.specs.declared.event.Event.{Event}
use Rattle.wm_event.specs.declared.event.EventKey.{EventKey}
use Rattle.wm_event.specs.declared.log.End.{End}
use Rattle.wm_event.specs.declared.log.ThreadLog.{ThreadLog}
use Rattle.wm_event.specs.declared.op.OpFields.{OpFields}
use Rattle.wm_explore.specs.declared.bound.Bound.{Bound}
use Rattle.wm_explore.specs.declared.bound.Bound.TheVariants.{Steps, Events}
use Rattle.wm_explore.specs.declared.state.State.{State}
use Rattle.wm_explore.specs.Writing.{WritesNone}
use Rattle.wm_explore.specs.declared.turn.Turn.{Turn}
use Rattle.wm_explore.specs.declared.turn.Turn.TheVariants.{Nothing, Write, Read, Bounded, Stuck}
use Rattle.wm_replay.specs.declared.continuing.Next.{Next}
use Rattle.wm_replay.specs.declared.continuing.Next.TheVariants.{Ends, Access, Unknown}
use Rattle.wm_replay.specs.Continuing.{ContinuesSo}

-- ---- the threads

-- what each thread of the log does next
pub record AreNexts (m : Module) (log : List ThreadLog) (nexts : List Next) : Type 0 where
  pub count : length nexts ≡ length log
  pub each : (k : ℕ) (t : ThreadLog) (next : Next) → slice_get log k ≡ Some t → slice_get nexts k ≡ Some next → ContinuesSo m k t next

-- a thread that asks for an access is at the bound of events if it has that many
abbrev pub at_events : ℕ → ℕ → ThreadLog → Option Bound
at_events k events t = if nat_lt (length t.events) events then None else Some (Events k)

abbrev pub bound_at : List ThreadLog → ℕ → Next → ℕ → Option Bound
bound_at log k (Ends end) events = None
bound_at log k Unknown events = Some (Steps k)
bound_at log k (Access op) events = option_and_then (at_events k events) (slice_get log k)

abbrev pub FindsBound : List ThreadLog → List Next → ℕ → Option Bound → Type 0
FindsBound log nexts events None = (k : ℕ) (next : Next) → slice_get nexts k ≡ Some next → bound_at log k next events ≡ None
FindsBound log nexts events (Some bound) = (k : ℕ) × (next : Next) × (slice_get nexts k ≡ Some next) × (bound_at log k next events ≡ Some bound)

abbrev pub FindsWrite : List Next → Option Turn → Type 0
FindsWrite nexts None = (k : ℕ) (op : OpFields) → slice_get nexts k ≡ Some (Access op) → kind_finds op.kind ≡ true
FindsWrite nexts (Some turn) = (k : ℕ) × (op : OpFields) × (turn ≡ Write k op) × (slice_get nexts k ≡ Some (Access op)) × (kind_finds op.kind ≡ false)

-- no event that arrived after the first ones writes a byte of the access
abbrev pub HasNoNew : State → OpFields → ℕ → Type 0
HasNoNew s op count = (i : ℕ) (key : EventKey) (e : Event) → count ≤ i → slice_get s.arrived i ≡ Some key → event_in s.log key ≡ Some e → WritesNone op e

-- the thread is marked, and what has arrived since writes no byte of the access
abbrev pub WaitsFor : State → ℕ → OpFields → Type 0
WaitsFor s k op = (n : ℕ) × (slice_get s.marks k ≡ Some (Some n)) × HasNoNew s op n

abbrev pub FindsRead : State → List Next → Option Turn → Type 0
FindsRead s nexts None = (k : ℕ) (op : OpFields) → slice_get nexts k ≡ Some (Access op) → kind_finds op.kind ≡ true → WaitsFor s k op
FindsRead s nexts (Some turn) = (k : ℕ) × (op : OpFields) × (turn ≡ Read k op) × (slice_get nexts k ≡ Some (Access op)) × (kind_finds op.kind ≡ true)

abbrev pub EachEnds : List Next → Bool → Type 0
EachEnds nexts true = (k : ℕ) (next : Next) → slice_get nexts k ≡ Some next → (end : End) × (next ≡ Ends end)
EachEnds nexts false = (k : ℕ) × (next : Next) × (slice_get nexts k ≡ Some next) × ((end : End) → next ≢ Ends end)

-- the thread that does this next ends, or waits
abbrev pub Rests : State → ℕ → Next → Type 0
Rests s k next = ((end : End) × (next ≡ Ends end)) ⊎ ((op : OpFields) × (next ≡ Access op) × WaitsFor s k op)

-- each thread but k ends or waits, and k has a place among the marks
pub record OthersRest (s : State) (nexts : List Next) (k : ℕ) : Type 0 where
  pub place : k < length s.marks
  pub others : (i : ℕ) (next : Next) → i ≢ k → slice_get nexts i ≡ Some next → Rests s i next

-- the threads of the log end as these threads do next
pub record EndSo (log : List ThreadLog) (nexts : List Next) : Type 0 where
  pub count : length log ≡ length nexts
  pub each : (k : ℕ) (t : ThreadLog) (next : Next) → slice_get log k ≡ Some t → slice_get nexts k ≡ Some next → next ≡ Ends t.end

-- ---- the turn

-- thread k has fewer events than it may have, and makes this access next
pub record MakesNext (m : Module) (events : ℕ) (log : List ThreadLog) (k : ℕ) (op : OpFields) : Type 0 where
  pub thread : ThreadLog
  pub is_thread : slice_get log k ≡ Some thread
  pub next : ContinuesSo m k thread (Access op)
  pub few : length thread.events < events

-- a thread ends only after more than 1,000,000 steps, or makes an event beyond those that it may have
pub record IsAtBound (m : Module) (events : ℕ) (log : List ThreadLog) : Type 0 where
  pub number : ℕ
  pub thread : ThreadLog
  pub is_thread : slice_get log number ≡ Some thread
  pub at : ContinuesSo m number thread Unknown ⊎ ((op : OpFields) × ContinuesSo m number thread (Access op) × (events ≤ length thread.events))

-- thread k reads next, and what it could read has been tried
abbrev pub IsWaiting : Module → State → ℕ → ThreadLog → Type 0
IsWaiting m s k t = (op : OpFields) × ContinuesSo m k t (Access op) × WaitsFor s k op

-- thread k makes no further event, and ends
abbrev pub EndsIn : Module → ℕ → ThreadLog → Type 0
EndsIn m k t = (end : End) × ContinuesSo m k t (Ends end)

-- each thread ends or waits, and one waits
pub record IsStuck (m : Module) (s : State) : Type 0 where
  pub each : (k : ℕ) (t : ThreadLog) → slice_get s.log k ≡ Some t → EndsIn m k t ⊎ IsWaiting m s k t
  pub some : (k : ℕ) × (t : ThreadLog) × (slice_get s.log k ≡ Some t) × IsWaiting m s k t

abbrev pub OfThread : Bound → Type 0
OfThread bound = (k : ℕ) × ((bound ≡ Steps k) ⊎ (bound ≡ Events k))

abbrev pub EachEndsIn : Module → List ThreadLog → Type 0
EachEndsIn m log = (k : ℕ) (t : ThreadLog) → slice_get log k ≡ Some t → EndsIn m k t

abbrev pub IsTurn : Module → ℕ → State → Turn → Type 0
IsTurn m events s Nothing = EachEndsIn m s.log
IsTurn m events s (Write k op) = MakesNext m events s.log k op × (kind_finds op.kind ≡ false)
IsTurn m events s (Read k op) = MakesNext m events s.log k op × (kind_finds op.kind ≡ true)
IsTurn m events s (Bounded bound) = IsAtBound m events s.log × OfThread bound
IsTurn m events s Stuck = IsStuck m s
