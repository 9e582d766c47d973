use Rattle.std.proofs.Common.{◌≡◌, length}
use Rattle.wm_sites.specs.Numbering.{HasNoNumbers}
use Rattle.wm_sites.proofs.Noting.{HasPlacesTo}
use Rattle.wm_sites.proofs.opcode_numbers.no_numbers.Given as goal

abbrev pub invariant-loop-block : goal.invariant-loop-block
invariant-loop-block l = record {
  none : HasNoNumbers l.table.items;
  count : length l.table.items ≡ l.block-index;
  places : HasPlacesTo l.blocks l.block-index l.table.items;
}
