use Rattle.std.proofs.Common.{◌≡◌, take}
use Rattle.wm_witness.proofs.copies.copy_writers.Given as goal

abbrev pub invariant-loop-writers : goal.invariant-loop-writers
invariant-loop-writers l = l.copy ≡ take l.writers-index l.thread
