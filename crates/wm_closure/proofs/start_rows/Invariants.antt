use Rattle.std.proofs.Common.{◌≡◌, ◌*◌, length}
use Rattle.wm_closure.specs.Graph.{AreOwn}
use Rattle.wm_closure.proofs.start_rows.Given as goal

abbrev pub invariant-loop-node : goal.invariant-loop-node
invariant-loop-node l = record {
  size : length l.rows.items ≡ length l.lanes * l.width;
  own : AreOwn l.lanes l.width l.node l.rows.items;
}
