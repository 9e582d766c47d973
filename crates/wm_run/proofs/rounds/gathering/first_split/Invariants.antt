use Rattle.std.proofs.Common.{ℕ, ◌<◌}
use Rattle.wm_run.specs.declared.rounds.ended.ThreadEnd.{ThreadEnd}
use Rattle.wm_run.specs.Ends.{IsEndIn}
use Rattle.wm_run.specs.Gathered.{Agrees}
use Rattle.wm_run.proofs.rounds.gathering.first_split.Given as goal

abbrev pub invariant-loop-thread : goal.invariant-loop-thread
invariant-loop-thread l = record { agree : (k : ℕ) (e : ThreadEnd) → k < l.thread → IsEndIn l.ends k e → Agrees l.recorder e }
