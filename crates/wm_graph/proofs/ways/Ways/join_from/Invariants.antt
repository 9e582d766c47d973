use Rattle.wm_event.specs.LoggedRun.{LoggedRun}
use Rattle.wm_graph.specs.Cycle.{AreWays}
use Rattle.wm_graph.proofs.ways.Ways.join_from.Given as goal

abbrev pub invariant-loop-to : goal.invariant-loop-to
invariant-loop-to l = (x : LoggedRun) → AreWays x l.fn.self → AreWays x l.self
