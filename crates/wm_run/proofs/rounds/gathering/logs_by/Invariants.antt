use Rattle.std.proofs.Common.{◌≡◌, ℕ, ◌<◌, length, slice_get, Some}
use Rattle.wm_run.specs.declared.rounds.ended.ThreadEnd.{ThreadEnd}
use Rattle.wm_run.specs.Ends.{IsEndIn}
use Rattle.wm_run.specs.Gathered.{log_by}
use Rattle.wm_run.proofs.rounds.gathering.logs_by.Given as goal

abbrev pub invariant-loop-thread : goal.invariant-loop-thread
invariant-loop-thread l = record {
  count : length l.logs.items ≡ l.thread;
  each : (t : ℕ) (e : ThreadEnd) → t < l.thread → IsEndIn l.ends t e → slice_get l.logs.items t ≡ Some (log_by e);
}
