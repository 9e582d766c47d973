use Rattle.std.proofs.Common.{◌≡◌, take}
use Rattle.std.specs.Prelude.{flat_map}
use Rattle.wm_witness.specs.Unknown.{keys_of}
use Rattle.wm_witness.proofs.unknown.thread_by_thread.Given as goal

abbrev pub invariant-loop-thread : goal.invariant-loop-thread
invariant-loop-thread l = l.order ≡ flat_map keys_of (take l.thread-index l.threads)
