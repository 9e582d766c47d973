use Rattle.wm_run.proofs.Absent.{AbsentBelow}
use Rattle.wm_run.proofs.plan.least_absent.Given as goal

abbrev pub invariant-loop-turn : goal.invariant-loop-turn
invariant-loop-turn l = AbsentBelow l.threads l.turns l.turn-index l.least
