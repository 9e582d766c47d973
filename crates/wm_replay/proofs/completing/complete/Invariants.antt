use Rattle.std.proofs.Common.{◌≡◌, length}
use Rattle.wm_replay.proofs.Completions.{AreCompleted}
use Rattle.wm_replay.proofs.completing.complete.Given as goal

abbrev pub invariant-loop-number : goal.invariant-loop-number
invariant-loop-number l = record {
  count : length l.completed ≡ l.number;
  are : AreCompleted l.module l.log l.completed;
}
