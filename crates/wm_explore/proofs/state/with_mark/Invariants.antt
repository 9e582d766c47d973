use Rattle.std.proofs.Common.{◌≡◌, length}
use Rattle.wm_explore.specs.States.{IsMarked}
use Rattle.wm_explore.proofs.state.with_mark.Given as goal

abbrev pub invariant-loop-number : goal.invariant-loop-number
invariant-loop-number l = record {
  count : length l.copy ≡ l.number;
  marked : IsMarked l.thread l.mark l.marks l.copy;
}
