use Rattle.std.proofs.Common.{◌≡◌, length}
use Rattle.wm_hb.specs.Table.{IsSmall, IsTable}
use Rattle.wm_hb.proofs.table.table.Given as goal

abbrev pub invariant-loop-key : goal.invariant-loop-key
invariant-loop-key l = record {
  size : length l.rows.items ≡ l.key-index;
  table : IsTable l.candidate l.from l.rows.items;
  small : IsSmall l.rows.items;
}
