use Rattle.std.proofs.Common.{All}
use Rattle.std.specs.List.{AllWithin}
use Rattle.wm_graph.specs.Edges.{HasEdgesOf, IsRight}
use Rattle.wm_graph.proofs.edges.edges.Given as goal

abbrev pub invariant-loop-thread : goal.invariant-loop-thread
invariant-loop-thread l = record {
  right : All (IsRight l.candidate) l.edges;
  complete : AllWithin (HasEdgesOf l.candidate l.shown l.edges) l.candidate.log 0 l.thread-index;
}
