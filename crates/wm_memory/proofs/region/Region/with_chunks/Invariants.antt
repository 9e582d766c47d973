use Rattle.std.proofs.Common.{◌≡◌, ℕ, List, [], length, slice_get, Some}
use Rattle.wm_memory.specs.declared.cells.Cell.{Cell}
use Rattle.wm_memory.proofs.region.Region.with_chunks.Given as goal

abbrev pub invariant-loop-number : goal.invariant-loop-number
invariant-loop-number l = record {
  size : length l.chunks.items ≡ l.number;
  none : (k : ℕ) (c : List Cell) → slice_get l.chunks.items k ≡ Some c → c ≡ [];
}
