-- The scripted run: what a module's threads do in the turns of a script.
use Rattle.std.specs.Prelude.{◌≡◌, ℕ, List, [], length, Ok, Some, slice_get}
use Rattle.wm_ast.specs.declared.module.Module.{Module}
use Rattle.wm_event.specs.declared.log.Start.{Start}
use Rattle.wm_event.specs.declared.log.ThreadLog.{ThreadLog}
use Rattle.wm_machine.specs.Run.{end_of}
use Rattle.wm_machine.specs.Start.{started}
use Rattle.wm_memory.specs.Visibility.{Step}
use Rattle.wm_memory.specs.Recorded.{by_thread, events_of, order_of, writers_of}
use Rattle.wm_valid.specs.Valid.{IsInit, Valid}
use Rattle.wm_run.specs.declared.plan.Plan.{Plan}
use Rattle.wm_run.specs.declared.turn.Turn.{Turn}
use Rattle.wm_run.specs.Plan.{IsPlan}
use Rattle.wm_run.specs.Refusal.{AllStart}
use Rattle.wm_run.specs.Run.{Record}
use Rattle.wm_run.specs.Script.{TurnsLead, ScriptState, Setting, ThreadState, done}

-- a thread that begins with this start, before its first step
pub record Begins (m : Module) (start : Start) (thread : ThreadState) : Type 0 where
  pub config : started m start.name start.args ≡ Ok thread.config
  pub made : thread.made ≡ 0

-- each thread begins with its start, and memory is untouched
pub record IsFirstState (m : Module) (starts : List Start) (state : ScriptState) : Type 0 where
  pub count : length state.threads ≡ length starts
  pub each : (t : ℕ) (start : Start) (thread : ThreadState) → slice_get starts t ≡ Some start → slice_get state.threads t ≡ Some thread → Begins m start thread
  pub history : state.history ≡ []

-- what is logged for thread t: its events are those of the steps, the newest first, and it is cut if it hasn't ended
abbrev pub thread_log : List Step → ℕ → Start → ThreadState → ThreadLog
thread_log s t start thread = record { start = start; end = end_of thread.config; steps = thread.made; events = events_of s t }

-- the log and the witness of the last state
pub record IsLogOf (starts : List Start) (threads : List ThreadState) (s : List Step) (run : Record) : Type 0 where
  pub count : length run.log ≡ length starts
  pub each : (t : ℕ) (start : Start) (thread : ThreadState) → slice_get starts t ≡ Some start → slice_get threads t ≡ Some thread → slice_get run.log t ≡ Some (thread_log s t start thread)
  pub writers : run.witness.writers ≡ by_thread (writers_of s) (length starts)
  pub order : run.witness.order ≡ order_of s

-- the log and the witness are those of the scripted run of the module by this plan and these turns
pub record IsScripted (m : Module) (plan : Plan) (turns : List Turn) (run : Record) : Type 0 where
  pub setting : Setting
  pub program : setting.program ≡ m
  pub initial : IsInit m setting.initial
  pub limit : setting.limit ≡ plan.steps
  pub first : ScriptState
  pub last : ScriptState
  pub begins : IsFirstState m plan.starts first
  pub plays : TurnsLead setting first turns last
  pub logged : IsLogOf plan.starts last.threads (done setting last.history) run

-- a module, a plan and turns have at most one scripted run
abbrev pub OneScriptedRun : Type 0
OneScriptedRun = (m : Module) (plan : Plan) (turns : List Turn) (run other : Record) → IsScripted m plan turns run → IsScripted m plan turns other → run ≡ other

-- they have one if the module is valid, the plan can be followed through the turns, and its threads start
abbrev pub HasScriptedRun : Type 0
HasScriptedRun = (m : Module) (plan : Plan) (turns : List Turn) → Valid m → IsPlan plan turns → AllStart m plan.starts → (run : Record) × IsScripted m plan turns run
