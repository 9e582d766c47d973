use Rattle.std.proofs.Common.{length}
use Rattle.wm_decode.proofs.Customs.{Skipped}
use Rattle.wm_decode.proofs.section.customs.Given as goal

abbrev pub invariant-loop-rest : goal.invariant-loop-rest
invariant-loop-rest l = Skipped l.rest l.fn.bytes

abbrev pub decreases-loop-rest : goal.decreases-loop-rest
decreases-loop-rest l = length l.rest
