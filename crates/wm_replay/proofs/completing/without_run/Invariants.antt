use Rattle.std.proofs.Common.{◌≡◌, List, length}
use Rattle.wm_event.specs.declared.log.ThreadLog.{ThreadLog}
use Rattle.wm_replay.proofs.Completions.{AreCompleted}
use Rattle.wm_replay.proofs.completing.without_run.Given as goal

-- the first threads can be completed
abbrev pub invariant-loop-number : goal.invariant-loop-number
invariant-loop-number l = (completed : List ThreadLog) × (length completed ≡ l.number) × AreCompleted l.module l.log completed
