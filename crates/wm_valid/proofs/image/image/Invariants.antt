use Rattle.std.proofs.Common.{◌≡◌, ℕ, ◌<◌, length, take, get_or}
use Rattle.wm_valid.specs.Memory.{covered}
use Rattle.wm_valid.proofs.image.image.Given as goal

abbrev pub invariant-loop-segment : goal.invariant-loop-segment
invariant-loop-segment l = record {
  size : length l.bytes.items ≡ l.end;
  bytes : (k : ℕ) → k < l.end → get_or l.bytes.items k 0 ≡ covered (take l.segment-index l.segments) 0 k;
}
