use Rattle.wm_graph.specs.Cycle.{AreWays}
use Rattle.wm_graph.proofs.cycle.find_cycle.Given as goal

abbrev pub invariant-loop-stage : goal.invariant-loop-stage
invariant-loop-stage l = AreWays l.candidate l.ways
