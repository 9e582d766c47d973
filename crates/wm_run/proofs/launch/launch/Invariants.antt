use Rattle.std.proofs.Common.{◌≡◌, ℕ, ◌<◌, ◌≤◌, length, slice_get, Some}
use Rattle.wm_event.specs.declared.log.Start.{Start}
use Rattle.wm_run.specs.declared.runner.Runner.{Runner}
use Rattle.wm_run.specs.Launch.{IsLaunched}
use Rattle.wm_run.proofs.launch.launch.Given as goal

abbrev pub invariant-loop-number : goal.invariant-loop-number
invariant-loop-number l = record {
  room : length l.starts ≤ l.runners.cap;
  count : length l.runners.items ≡ l.number;
  each : (t : ℕ) (start : Start) (runner : Runner) → t < l.number → slice_get l.starts t ≡ Some start → slice_get l.runners.items t ≡ Some runner → IsLaunched l.module start runner;
}
