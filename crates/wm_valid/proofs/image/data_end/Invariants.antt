use Rattle.std.proofs.Common.{◌≤◌, All, take}
use Rattle.wm_valid.specs.Memory.{Within}
use Rattle.wm_valid.proofs.image.data_end.Given as goal

abbrev pub invariant-loop-segment : goal.invariant-loop-segment
invariant-loop-segment l = record {
  within : All (Within l.end) (take l.segment-index l.segments);
  bound : l.end ≤ l.size;
}
