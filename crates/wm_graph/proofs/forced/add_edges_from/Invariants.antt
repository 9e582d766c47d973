use Rattle.wm_graph.specs.Cycle.{AreWays}
use Rattle.wm_graph.proofs.forced.add_edges_from.Given as goal

abbrev pub invariant-loop-other : goal.invariant-loop-other
invariant-loop-other l = AreWays l.candidate l.ways
