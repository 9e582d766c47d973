use Rattle.std.proofs.Common.{◌<◌}
use Rattle.wm_races.specs.Bounds.{IsStart}
use Rattle.wm_races.proofs.bounds.start_of.Given as goal

-- of the threads so far
abbrev pub invariant-loop-thread : goal.invariant-loop-thread
invariant-loop-thread l = IsStart l.before (λ t. t < l.thread) l.address l.event l.start
