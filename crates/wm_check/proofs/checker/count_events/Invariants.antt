use Rattle.std.proofs.Common.{◌≡◌, take}
use Rattle.wm_event.specs.Shape.{event_count}
use Rattle.wm_check.proofs.checker.count_events.Given as goal

abbrev pub invariant-loop-thread : goal.invariant-loop-thread
invariant-loop-thread l = l.events ≡ event_count (take l.thread-index l.threads)
