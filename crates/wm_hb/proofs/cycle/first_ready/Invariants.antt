use Rattle.std.proofs.Common.{◌<◌, ℕ}
use Rattle.wm_event.specs.LoggedRun.{execution}
use Rattle.wm_hb.specs.Cycle.{IsReady}
use Rattle.wm_hb.proofs.cycle.first_ready.Given as goal

-- no thread so far is ready
abbrev pub invariant-loop-thread : goal.invariant-loop-thread
invariant-loop-thread l = (t : ℕ) → t < l.thread → IsReady (execution l.candidate) l.scheduled t → ⊥
