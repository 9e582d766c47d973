-- each of those so far is excluded, or is tear-free with the range of the read
use Rattle.wm_witness.proofs.TearingLaw.{AreBefore, IsLikeOrExcluded}
use Rattle.wm_witness.proofs.tearing.is_tear_free_byte.Given as goal

abbrev pub invariant-loop-writer : goal.invariant-loop-writer
invariant-loop-writer l = AreBefore (IsLikeOrExcluded l.start l.assumed l.event l.byte) l.writer-items l.writer-index
