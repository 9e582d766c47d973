use Rattle.std.proofs.Common.{take}
use Rattle.wm_writers.specs.Found.{AreOnly}
use Rattle.wm_writers.proofs.source.are_only.Given as goal

-- the ids so far
abbrev pub invariant-loop-id : goal.invariant-loop-id
invariant-loop-id l = AreOnly l.writer (take l.id-index l.fit)
