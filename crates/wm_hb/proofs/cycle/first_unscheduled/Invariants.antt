use Rattle.std.proofs.Common.{◌≡◌, ◌<◌, ℕ, None}
use Rattle.wm_event.specs.Log.{event_in}
use Rattle.wm_hb.specs.Cycle.{next_key}
use Rattle.wm_hb.proofs.cycle.first_unscheduled.Given as goal

-- no thread so far has a next event
abbrev pub invariant-loop-thread : goal.invariant-loop-thread
invariant-loop-thread l = (t : ℕ) → t < l.thread → event_in l.candidate.log (next_key l.scheduled t) ≡ None
