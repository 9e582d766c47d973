use Rattle.std.proofs.Common.{◌<◌}
use Rattle.wm_races.specs.Bounds.{IsEnd}
use Rattle.wm_races.proofs.bounds.end_of.Given as goal

-- of the threads so far
abbrev pub invariant-loop-thread : goal.invariant-loop-thread
invariant-loop-thread l = IsEnd l.before (λ t. t < l.thread) l.address l.event l.end
