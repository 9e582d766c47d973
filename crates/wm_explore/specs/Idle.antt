-- Turns of a loop without which a thread is where it is, and executions without them.
use Rattle.std.specs.Prelude.{◌≡◌, ℕ, ◌<◌, ◌≤◌, false, List, [], ◌++◌, Ok, Some, drop, length, slice_get, take}
use Rattle.wm_ast.specs.declared.module.Module.{Module}
use Rattle.wm_event.specs.Event.{writes}
use Rattle.wm_event.specs.LoggedRun.{LoggedRun, execution}
use Rattle.wm_event.specs.Shape.{event_count}
use Rattle.wm_event.specs.declared.event.Event.{Event}
use Rattle.wm_event.specs.declared.log.Start.{Start}
use Rattle.wm_event.specs.declared.log.ThreadLog.{ThreadLog}
use Rattle.wm_explore.specs.Executions.{IsCausal, IsExecutionOf, IsWithin, ends_of}
use Rattle.wm_machine.specs.Run.{steps}
use Rattle.wm_machine.specs.Term.{Config}
use Rattle.wm_part.specs.Pick.{numbered}
use Rattle.wm_replay.specs.Replay.{reads_of, start_of}

-- ---- a turn

-- thread k is in this configuration after so many steps, which make the events of t and no others
pub record IsAfter (m : Module) (k : ℕ) (t : ThreadLog) (config : Config) (count : ℕ) : Type 0 where
  pub start : Config
  pub is_start : start_of m t ≡ Ok start
  pub ran : steps m k start (reads_of t.events) count ≡ Some record { events = t.events; config = config; reads = [] }

-- the events from number i on and below n write nothing
abbrev pub OnlyRead : List Event → ℕ → ℕ → Type 0
OnlyRead events i n = (j : ℕ) (e : Event) → i ≤ j → j < n → slice_get events j ≡ Some e → writes e ≡ false

-- the events without those from number i on and below n; the others keep their order
abbrev pub leaving_out : ℕ → ℕ → List Event → List Event
leaving_out i n events = take i events ++ numbered i (drop n events)

abbrev pub shortened : ℕ → ℕ → ℕ → ThreadLog → ThreadLog
shortened i n count t = record { start = t.start; end = t.end; steps = count; events = leaving_out i n t.events }

-- the events from number i on and below n only read, and without them thread k comes to where it is, as soon or sooner
pub record IsIdle (m : Module) (k : ℕ) (t : ThreadLog) (i n : ℕ) : Type 0 where
  pub some : i < n
  pub listed : n ≤ length t.events
  pub read : OnlyRead t.events i n
  pub config : Config
  pub count : ℕ
  pub after : IsAfter m k t config count
  pub fewer : ℕ
  pub without : IsAfter m k (shortened i n fewer t) config fewer
  pub sooner : fewer ≤ count

-- some of its events are such a turn
abbrev pub HasIdleReads : Module → ℕ → ThreadLog → Type 0
HasIdleReads m k t = (first : ℕ) × (end : ℕ) × IsIdle m k t first end

-- some events of some thread are such a turn
pub record HasIdleTurn (m : Module) (log : List ThreadLog) : Type 0 where
  pub number : ℕ
  pub thread : ThreadLog
  pub is_thread : slice_get log number ≡ Some thread
  pub turn : HasIdleReads m number thread

-- ---- executions without it

-- y is an execution with the ends of x, with no more events in all, and with no more events or steps of a thread
pub record StandsFor (m : Module) (starts : List Start) (y x : LoggedRun) : Type 0 where
  pub is_execution : IsExecutionOf m starts y
  pub causal : IsCausal (execution y)
  pub ends : ends_of y.log ≡ ends_of x.log
  pub no_more : event_count y.log ≤ event_count x.log
  pub within : (n : ℕ) → IsWithin n x.log → IsWithin n y.log
