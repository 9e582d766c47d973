use Rattle.std.proofs.Common.{◌≡◌, ℕ, ◌<◌, ◌≤◌, length, slice_get, Some}
use Rattle.wm_event.specs.declared.log.Start.{Start}
use Rattle.wm_logfile.specs.Document.{EndFits}
use Rattle.wm_machine.specs.Run.{end_of}
use Rattle.wm_machine.specs.State.{config_of}
use Rattle.wm_run.specs.declared.runner.Runner.{Runner}
use Rattle.wm_run.specs.Finish.{log_of}
use Rattle.wm_run.proofs.scripts.script.logs_of.Given as goal

abbrev pub invariant-loop-number : goal.invariant-loop-number
invariant-loop-number l = record {
  room : length l.starts ≤ l.logs.cap;
  count : length l.logs.items ≡ l.number;
  each : (t : ℕ) (start : Start) (runner : Runner) → t < l.number → slice_get l.starts t ≡ Some start → slice_get l.runners t ≡ Some runner
      → slice_get l.logs.items t ≡ Some (log_of l.recorder t start runner);
  ends : (t : ℕ) (runner : Runner) → t < l.number → slice_get l.runners t ≡ Some runner → EndFits (end_of (config_of runner.thread));
}
