use Rattle.std.proofs.Common.{◌≡◌, ◌++◌, All, drop, map}
use Rattle.wm_graph.specs.Columns.{IsMarkedBy}
use Rattle.wm_graph.proofs.columns.column_of.Given as goal

abbrev pub invariant-loop-event : goal.invariant-loop-event
invariant-loop-event l = record {
  events : map (λ node. node.event) l.nodes ++ drop l.event-index l.thread.events ≡ l.thread.events;
  marks : All (IsMarkedBy l.fn.breach) l.nodes;
}
