use Rattle.std.proofs.Common.{◌≡◌, take}
use Rattle.wm_explore.proofs.copies.copied_threads.Given as goal

abbrev pub invariant-loop-thread : goal.invariant-loop-thread
invariant-loop-thread l = record {
  copied : l.copy ≡ take l.thread-index l.threads;
}
