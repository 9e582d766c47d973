use Rattle.std.proofs.Common.{◌≡◌, map, take}
use Rattle.wm_witness.specs.Unknown.{thread_from_init}
use Rattle.wm_witness.proofs.unknown.all_from_init.Given as goal

abbrev pub invariant-loop-thread : goal.invariant-loop-thread
invariant-loop-thread l = l.list ≡ map thread_from_init (take l.thread-index l.threads)
