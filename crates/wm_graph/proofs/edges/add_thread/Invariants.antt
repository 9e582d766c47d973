use Rattle.std.proofs.Common.{All}
use Rattle.std.specs.List.{AllWithin}
use Rattle.wm_graph.specs.Edges.{HasShownEdgesTo, IsRight, Keeps}
use Rattle.wm_graph.proofs.edges.add_thread.Given as goal

abbrev pub invariant-loop-event : goal.invariant-loop-event
invariant-loop-event l = record {
  right : All (IsRight l.candidate) l.edges;
  kept : Keeps l.initial.edges l.edges;
  complete : AllWithin (HasShownEdgesTo l.candidate l.shown l.edges) l.thread.events 0 l.event-index;
}
