use Rattle.std.proofs.Common.{◌≡◌, ◌++◌, All, drop, map}
use Rattle.wm_graph.specs.Columns.{IsMarkedBy, events_of}
use Rattle.wm_graph.proofs.columns.columns.Given as goal

abbrev pub invariant-loop-thread : goal.invariant-loop-thread
invariant-loop-thread l = record {
  columns : map events_of l.columns ++ drop l.thread-index (map (λ thread. thread.events) l.fn.log) ≡ map (λ thread. thread.events) l.fn.log;
  marks : All (λ column. All (IsMarkedBy l.fn.breach) column.nodes) l.columns;
}
