-- A log of the module's own threads over this memory, in whichever order they took turns.
use Rattle.std.specs.Prelude.{◌≡◌, ℕ, ◌<◌, ◌≤◌, List, length, All, Some, slice_get}
use Rattle.wm_ast.specs.declared.module.Module.{Module}
use Rattle.wm_event.specs.Limits.{max_steps, max_threads}
use Rattle.wm_event.specs.declared.log.ThreadLog.{ThreadLog}
use Rattle.wm_event.specs.LoggedRun.{execution}
use Rattle.wm_event.specs.Rules.{IsValid}
use Rattle.wm_event.specs.Shape.{IsWellShaped}
use Rattle.wm_logfile.specs.Document.{EndFits, IsWithinLimits}
use Rattle.wm_memory.specs.declared.history_step.HistoryStep.{HistoryStep}
use Rattle.wm_memory.specs.Legal.{IsLegal}
use Rattle.wm_memory.specs.Recorded.{Records}
use Rattle.wm_memory.specs.Visibility.{steps}
use Rattle.wm_replay.specs.Replay.{AreRuns}
use Rattle.wm_valid.specs.Valid.{IsInit, Valid}
use Rattle.wm_run.specs.Run.{Record, over}

-- each thread is its run, and the log and the witness are what one legal history over the initial memory records
pub record IsOwnRun (m : Module) (run : Record) : Type 0 where
  pub initial : List ℕ
  pub is_init : IsInit m initial
  pub bytes : All (λ b. b < 256) initial
  pub history : List HistoryStep
  pub legal : IsLegal (length run.log) initial history
  pub records : Records (length run.log) initial (steps initial history) (over initial run)
  pub runs : AreRuns m run.log

-- at most the threads and steps of a document, and 64-bit results
pub record IsWithinPlan (run : Record) : Type 0 where
  pub threads : length run.log ≤ max_threads
  pub steps : (t : ℕ) (thread : ThreadLog) → slice_get run.log t ≡ Some thread → thread.steps ≤ max_steps
  pub ends : (t : ℕ) (thread : ThreadLog) → slice_get run.log t ≡ Some thread → EndFits thread.end

-- over the initial memory it is a well-shaped candidate whose threads are their runs, and a valid execution
pub record IsAllowedOver (m : Module) (initial : List ℕ) (run : Record) : Type 0 where
  pub shape : IsWellShaped (over initial run)
  pub runs : AreRuns m run.log
  pub valid : IsValid (execution (over initial run))

-- own logs are within the limits of a document
abbrev pub OwnRunsAreWithinLimits : Type 0
OwnRunsAreWithinLimits = (m : Module) (run : Record) → Valid m → IsOwnRun m run → IsWithinPlan run → IsWithinLimits run.log run.witness

-- own logs are allowed
abbrev pub OwnRunsAreAllowed : Type 0
OwnRunsAreAllowed = (m : Module) (run : Record) (initial : List ℕ) → IsOwnRun m run → IsInit m initial → IsAllowedOver m initial run
