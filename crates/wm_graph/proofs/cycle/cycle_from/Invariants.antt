use Rattle.std.proofs.Common.{All}
use Rattle.wm_graph.specs.Cycle.{IsCycleEdge, Leads}
use Rattle.wm_graph.proofs.cycle.cycle_from.Given as goal

abbrev pub invariant-loop : goal.invariant-loop
invariant-loop l = record {
  right : All (IsCycleEdge l.candidate) l.edges;
  leads : Leads l.start l.edges l.event;
}
