use Rattle.std.proofs.Common.{◌≡◌, ℕ, Some, length}
use Rattle.std.specs.Prelude.{slice_get}
use Rattle.wm_event.specs.declared.log.ThreadLog.{ThreadLog}
use Rattle.wm_replay.specs.declared.continuing.Next.{Next}
use Rattle.wm_replay.specs.Continuing.{ContinuesSo}
use Rattle.wm_explore.proofs.turn.nexts.Given as goal

abbrev pub invariant-loop-number : goal.invariant-loop-number
invariant-loop-number l = record {
  count : length l.nexts ≡ l.number;
  each : (k : ℕ) (t : ThreadLog) (next : Next) → slice_get l.state.log k ≡ Some t → slice_get l.nexts k ≡ Some next → ContinuesSo l.module k t next;
}
