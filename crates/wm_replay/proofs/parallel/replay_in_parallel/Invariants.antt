use Rattle.std.proofs.Common.{◌≡◌, ℕ, ◌<◌, Some, length}
use Rattle.std.specs.Prelude.{slice_get}
use Rattle.wm_event.specs.declared.log.ThreadLog.{ThreadLog}
use Rattle.wm_replay.specs.Positions.{ArePositionsIn}
use Rattle.wm_replay.specs.Replay.{IsRun}
use Rattle.wm_replay.proofs.parallel.replay_in_parallel.Given as goal

abbrev pub invariant-loop-replayed : goal.invariant-loop-replayed
invariant-loop-replayed g l = record {
  runs : (k : ℕ) (t : ThreadLog) → k < length l.yielded → slice_get l.log k ≡ Some t → IsRun l.module k t;
  count : length l.positions.items ≡ length l.yielded;
  each : ArePositionsIn l.module l.log l.positions.items;
}
