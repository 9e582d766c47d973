use Rattle.std.proofs.Common.{◌≡◌, length}
use Rattle.wm_closure.specs.Graph.{LowersRow}
use Rattle.wm_closure.proofs.lower_row.Given as goal

abbrev pub invariant-loop-lane : goal.invariant-loop-lane
invariant-loop-lane l = record {
  size : length l.rows ≡ length l.initial.rows;
  lowered : LowersRow l.width l.source l.node l.lane l.initial.rows l.rows;
}
