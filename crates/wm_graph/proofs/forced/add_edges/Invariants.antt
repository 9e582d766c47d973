use Rattle.wm_graph.specs.Cycle.{AreWays}
use Rattle.wm_graph.proofs.forced.add_edges.Given as goal

abbrev pub invariant-loop-place : goal.invariant-loop-place
invariant-loop-place l = AreWays l.candidate l.ways
