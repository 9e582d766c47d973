-- The combined result of the ends of all threads and the recorder that they shared.
use Rattle.std.specs.Prelude.{◌≡◌, ℕ, ◌<◌, List, [], length, map, Some, slice_get, unwrap_or, ⊤}
use Rattle.wm_ast.specs.declared.module.Module.{Module}
use Rattle.wm_event.specs.declared.log.ThreadLog.{ThreadLog}
use Rattle.wm_recorder.specs.Recorder.{Recording, IsFull, IsRecording, RecordsValid, initial_of, threads_of}
use Rattle.wm_valid.specs.Valid.{IsInit}
use Rattle.wm_run.specs.declared.rounds.ended.Stop.TheVariants.{Memory}
use Rattle.wm_run.specs.declared.rounds.ended.ThreadEnd.{ThreadEnd}
use Rattle.wm_run.specs.declared.fault.RunFault.{RunFault}
use Rattle.wm_run.specs.declared.fault.RunFault.TheVariants as run
use Rattle.wm_run.specs.Ends.{HasOneEach, IsEndIn, IsEndsFault}
use Rattle.wm_run.specs.Reached.{thread_log}
use Rattle.wm_run.specs.Run.{AreLogsOver, Record}

-- what is logged for a thread, by its end
abbrev pub log_by : ThreadEnd → ThreadLog
log_by e = thread_log e.start e.end e.steps e.calls.events

-- the logs of this number of threads, each by its end
pub record AreLogsBy (threads : ℕ) (ends : List ThreadEnd) (logs : List ThreadLog) : Type 0 where
  pub count : length logs ≡ threads
  pub each : (t : ℕ) (e : ThreadEnd) → t < threads → IsEndIn ends t e → slice_get logs t ≡ Some (log_by e)

-- the accesses that the thread called for are the ones recorded for it
abbrev pub HasItsEvents : Recording → ThreadEnd → Type 0
HasItsEvents r e = unwrap_or (slice_get r.events e.thread) [] ≡ e.calls.events

-- the recorder is full if the memory stopped the thread
abbrev pub StopsWhereFull : Recording → ThreadEnd → Type 0
StopsWhereFull r e = e.stop ≡ Memory → IsFull r

-- the end and the recorder agree on the thread
pub record Agrees (r : Recording) (e : ThreadEnd) : Type 0 where
  pub events : HasItsEvents r e
  pub full : StopsWhereFull r e

-- they agree on all threads
abbrev pub AllAgree : Recording → List ThreadEnd → Type 0
AllAgree r ends = (t : ℕ) (e : ThreadEnd) → t < threads_of r → IsEndIn ends t e → Agrees r e

-- t is the first thread on which they disagree
pub record IsFirstSplit (r : Recording) (ends : List ThreadEnd) (t : ℕ) : Type 0 where
  pub there : t < threads_of r
  pub split : (e : ThreadEnd) × IsEndIn ends t e × (Agrees r e → ⊥)
  pub below : (k : ℕ) (e : ThreadEnd) → k < t → IsEndIn ends k e → Agrees r e

-- the logs of the threads of the module that have these ends and whose accesses this recorder made
pub record AreGathered (m : Module) (r : Recording) (ends : List ThreadEnd) (logs : List ThreadLog) : Type 0 where
  pub is_init : IsInit m (initial_of r)
  pub one_each : HasOneEach (threads_of r) ends
  pub agrees : AllAgree r ends
  pub by_ends : AreLogsBy (threads_of r) ends logs
  pub events : AreLogsOver r logs

-- the run of the module whose threads have these ends and whose accesses this recorder made
pub record IsGathered (m : Module) (r : Recording) (ends : List ThreadEnd) (run : Record) : Type 0 where
  pub is_init : IsInit m (initial_of r)
  pub one_each : HasOneEach (threads_of r) ends
  pub agrees : AllAgree r ends
  pub logs : AreLogsBy (threads_of r) ends run.log
  pub events : map (λ (log : ThreadLog). log.events) run.log ≡ r.events
  pub writers : run.witness.writers ≡ r.writers
  pub order : run.witness.order ≡ r.order
  pub recording : IsRecording r
  pub valid : RecordsValid r

-- why they make no run: first Init, then the ends, then disagreements on threads
abbrev pub IsGatherFault : Module → Recording → List ThreadEnd → RunFault → Type 0
IsGatherFault m r ends run.Foreign = IsInit m (initial_of r) → ⊥
IsGatherFault m r ends (run.Ends t) = IsInit m (initial_of r) × IsEndsFault (threads_of r) ends t
IsGatherFault m r ends (run.Split t) = IsInit m (initial_of r) × HasOneEach (threads_of r) ends × IsFirstSplit r ends t
IsGatherFault m r ends run.OutOfMemory = ⊤
IsGatherFault m r ends (run.Start t fault) = ⊥
IsGatherFault m r ends (run.Plan fault) = ⊥
