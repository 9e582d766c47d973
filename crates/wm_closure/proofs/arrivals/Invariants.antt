use Rattle.std.proofs.Common.{◌≡◌, ◌≤◌, ◌*◌, length}
use Rattle.wm_closure.proofs.Arriving.{AreLowered}
use Rattle.wm_closure.proofs.arrivals.Given as goal

abbrev pub invariant-loop-node : goal.invariant-loop-node
invariant-loop-node l = record {
  small : l.node ≤ length l.graph;
  size : length l.rows.items ≡ length l.graph * l.width;
  lowered : AreLowered l.graph l.lanes l.width l.node l.rows.items;
}

abbrev pub decreases-loop-node : goal.decreases-loop-node
decreases-loop-node l = l.node
