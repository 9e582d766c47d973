use Rattle.std.proofs.Common.{◌≡◌, ◌<◌, ℕ}
use Rattle.wm_run.specs.Ends.{ends_of}
use Rattle.wm_run.proofs.rounds.ends.ends_fault.Given as goal

abbrev pub invariant-loop-thread : goal.invariant-loop-thread
invariant-loop-thread l = record { below : (k : ℕ) → k < l.thread → ends_of l.ends k ≡ 1 }
