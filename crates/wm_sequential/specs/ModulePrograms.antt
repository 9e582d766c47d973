-- Data races of ECMA-262 in the executions of a module, and what follows if there are none.
use Rattle.std.specs.Prelude.{◌≡◌, ℕ, ◌*◌, ◌^◌, ◌<◌, ◌≤◌, List, [], ◌∷◌, ◌++◌, Some, IsTrue, length, map, slice_get, take}
use Rattle.wm_access.specs.AccessWidth.{bytes_of}
use Rattle.wm_ast.specs.declared.module.Module.{Module}
use Rattle.wm_event.specs.declared.event.Event.{Event}
use Rattle.wm_event.specs.declared.event.EventKey.{EventKey}
use Rattle.wm_event.specs.declared.log.Start.{Start}
use Rattle.wm_event.specs.declared.log.ThreadLog.{ThreadLog}
use Rattle.wm_event.specs.declared.op.OpFields.{OpFields}
use Rattle.wm_event.specs.Event.{key_of, reads}
use Rattle.wm_event.specs.Execution.{Execution}
use Rattle.wm_event.specs.Log.{event_in}
use Rattle.wm_event.specs.LoggedRun.{LoggedRun, execution}
use Rattle.wm_event.specs.Op.{event_made}
use Rattle.wm_event.specs.Rules.{IsValid}
use Rattle.wm_event.specs.Shape.{IsWellShaped, read_width}
use Rattle.wm_replay.specs.Replay.{AreRuns, IsRun}
use Rattle.wm_sequential.specs.Programs.{HasDistinctPlaces, HasNoStandardRace}
use Rattle.wm_sequential.specs.Sequential.{IsSequential}

-- A program: a module with its initial memory, the function and arguments of each thread, and the most steps of a thread.
pub record Program : Type 0 where
  pub code : Module
  pub initial : List ℕ
  pub starts : List Start
  pub limit : ℕ

abbrev pub starts_of : List ThreadLog → List Start
starts_of log = map (λ thread. thread.start) log

-- no thread has more steps than the limit
abbrev pub AreWithin : ℕ → List ThreadLog → Type 0
AreWithin limit log = (k : ℕ) (t : ThreadLog) → slice_get log k ≡ Some t → t.steps ≤ limit

-- the log's threads are runs of the program, which may be cut, on the values that their events read
pub record IsLogOf (p : Program) (log : List ThreadLog) : Type 0 where
  pub runs : AreRuns p.code log
  pub within : AreWithin p.limit log
  pub starts : starts_of log ≡ p.starts

-- x is an execution of the program: its events are those of such a log, each byte read has a writer, and no two events have
-- one place
pub record IsExecutionOf (p : Program) (x : Execution) : Type 0 where
  pub log : List ThreadLog
  pub is_log : IsLogOf p log
  pub events : (key : EventKey) → x.event_of key ≡ event_in log key
  pub writers : (key : EventKey) (e : Event) → x.event_of key ≡ Some e → length (x.writers_of key) ≡ read_width e
  pub places : HasDistinctPlaces x
  pub initial : x.initial ≡ p.initial

-- no valid execution of the program has a data race of ECMA-262
abbrev pub IsDataRaceFree : Program → Type 0
IsDataRaceFree p = (x : Execution) → IsExecutionOf p x → IsValid x → HasNoStandardRace x

-- if a program is data race free, each of its valid runs is sequential, in the order of its witness
abbrev pub DataRaceFreeProgramsAreSequential : Type 0
DataRaceFreeProgramsAreSequential = (p : Program) (run : LoggedRun) → IsDataRaceFree p → IsLogOf p run.log → run.initial ≡ p.initial → IsWellShaped run → IsValid (execution run)
    → IsSequential (execution run)

-- one access makes e, and if it reads this value, d
pub record AreOfOneAccess (e d : Event) (value : ℕ) : Type 0 where
  pub access : OpFields
  pub before : event_made (key_of e) access e.read ≡ e
  pub now : event_made (key_of e) access value ≡ d

-- a run of thread k of the same start, with these events and no more steps than t
pub record IsCutRun (m : Module) (k : ℕ) (t cut : ThreadLog) (events : List Event) : Type 0 where
  pub start : cut.start ≡ t.start
  pub made : cut.events ≡ events
  pub fewer : cut.steps ≤ t.steps
  pub run : IsRun m k cut

-- a run whose event n reads may be cut after it, and there the same access may read any value that fits it. Its kind and what it
-- writes follow: a compare-exchange writes exactly if it reads what it expects
abbrev pub RunsAreReceptive : Type 0
RunsAreReceptive = (m : Module) (k : ℕ) (t : ThreadLog) (n : ℕ) (e : Event) (value : ℕ) → IsRun m k t → slice_get t.events n ≡ Some e → IsTrue (reads e)
    → value < 2 ^ (8 * bytes_of e.width) → (cut : ThreadLog) × (d : Event) × AreOfOneAccess e d value × IsCutRun m k t cut (take n t.events ++ d ∷ [])
