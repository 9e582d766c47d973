-- The result of the threads and of what they recorded.
use Rattle.std.specs.Prelude.{◌≡◌, ℕ, List, [], length, unwrap_or, Some, slice_get}
use Rattle.wm_event.specs.declared.log.Start.{Start}
use Rattle.wm_event.specs.declared.log.ThreadLog.{ThreadLog}
use Rattle.wm_logfile.specs.Document.{EndFits}
use Rattle.wm_machine.specs.Run.{end_of}
use Rattle.wm_machine.specs.State.{config_of}
use Rattle.wm_recorder.specs.Recorder.{IsRecording, Recording}
use Rattle.wm_run.specs.declared.runner.Runner.{Runner}
use Rattle.wm_run.specs.Run.{Record}

-- what is logged for thread t
abbrev pub log_of : Recording → ℕ → Start → Runner → ThreadLog
log_of recorder t start runner =
    record { start = start; end = end_of (config_of runner.thread); steps = runner.made; events = unwrap_or (slice_get recorder.events t) [] }

-- a log for each thread
pub record AreLogs (starts : List Start) (runners : List Runner) (recorder : Recording) (logs : List ThreadLog) : Type 0 where
  pub count : length logs ≡ length starts
  pub each : (t : ℕ) (start : Start) (runner : Runner) → slice_get starts t ≡ Some start → slice_get runners t ≡ Some runner → slice_get logs t ≡ Some (log_of recorder t start runner)
  pub ends : (t : ℕ) (runner : Runner) → slice_get runners t ≡ Some runner → EndFits (end_of (config_of runner.thread))

-- the logs of the threads, with the witness that was recorded
pub record IsFinished (starts : List Start) (runners : List Runner) (recorder : Recording) (run : Record) : Type 0 where
  pub logs : AreLogs starts runners recorder run.log
  pub writers : run.witness.writers ≡ recorder.writers
  pub order : run.witness.order ≡ recorder.order
  pub recording : IsRecording recorder
