use Rattle.wm_event.specs.LoggedRun.{LoggedRun}
use Rattle.wm_graph.specs.Cycle.{AreWays}
use Rattle.wm_graph.proofs.ways.Ways.join_all.Given as goal

abbrev pub invariant-loop-from : goal.invariant-loop-from
invariant-loop-from l = (x : LoggedRun) → AreWays x l.fn.self → AreWays x l.self
