use Rattle.std.proofs.Common.{◌≡◌, take}
use Rattle.wm_witness.proofs.copies.copy_witness.Given as goal

abbrev pub invariant-loop-thread : goal.invariant-loop-thread
invariant-loop-thread l = l.writers ≡ take l.thread-index l.witness.writers
