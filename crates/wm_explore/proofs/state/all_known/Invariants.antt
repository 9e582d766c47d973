use Rattle.std.proofs.Common.{◌≡◌, length}
use Rattle.wm_explore.specs.Known.{KnowsOnly}
use Rattle.wm_explore.proofs.state.all_known.Given as goal

abbrev pub invariant-loop-next : goal.invariant-loop-next
invariant-loop-next l = record {
  count : length l.known ≡ l.next-index;
  known : KnowsOnly l.nexts l.known;
}
