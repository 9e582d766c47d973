use Rattle.std.proofs.Common.{◌≡◌, length}
use Rattle.wm_explore.specs.Known.{KnowsBut}
use Rattle.wm_explore.proofs.state.known_but.Given as goal

abbrev pub invariant-loop-number : goal.invariant-loop-number
invariant-loop-number l = record {
  count : length l.known ≡ l.number;
  known : KnowsBut l.moved l.nexts l.known;
}
