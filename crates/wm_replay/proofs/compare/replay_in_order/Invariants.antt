use Rattle.std.proofs.Common.{◌≡◌, ℕ, ◌<◌, Some, length}
use Rattle.std.specs.Prelude.{slice_get}
use Rattle.wm_event.specs.declared.log.ThreadLog.{ThreadLog}
use Rattle.wm_replay.specs.Positions.{ArePositionsIn}
use Rattle.wm_replay.specs.Replay.{IsRun}
use Rattle.wm_replay.proofs.compare.replay_in_order.Given as goal

abbrev pub invariant-loop-number : goal.invariant-loop-number
invariant-loop-number l = record {
  runs : (k : ℕ) (t : ThreadLog) → k < l.number → slice_get l.log k ≡ Some t → IsRun l.module k t;
  count : length l.positions.items ≡ l.number;
  each : ArePositionsIn l.module l.log l.positions.items;
}
