use Rattle.std.proofs.Common.{All}
use Rattle.std.specs.List.{AllWithin}
use Rattle.wm_graph.specs.Edges.{IsRight, Keeps}
use Rattle.wm_graph.proofs.EdgeLaws.{IsDrawn}
use Rattle.wm_graph.proofs.edges.add_runs.Given as goal

abbrev pub invariant-loop-run : goal.invariant-loop-run
invariant-loop-run l = record {
  right : All (IsRight l.candidate) l.edges;
  kept : Keeps l.initial.edges l.edges;
  drawn : AllWithin (IsDrawn l.candidate l.edges l.reader) l.runs 0 l.run-index;
}
