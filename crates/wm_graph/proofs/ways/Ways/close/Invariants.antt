use Rattle.wm_event.specs.LoggedRun.{LoggedRun}
use Rattle.wm_graph.specs.Cycle.{AreWays}
use Rattle.wm_graph.proofs.ways.Ways.close.Given as goal

abbrev pub invariant-loop-through : goal.invariant-loop-through
invariant-loop-through l = (x : LoggedRun) → AreWays x l.fn.self → AreWays x l.self
