use Rattle.std.proofs.Common.{◌≡◌, map}
use Rattle.wm_event.specs.declared.log.ThreadLog.{ThreadLog}
use Rattle.wm_tests.proofs.tests.recordings.logs_of.Given as goal

abbrev pub invariant-loop-own : goal.invariant-loop-own
invariant-loop-own l = map (λ (thread : ThreadLog). thread.events) l.threads.items ≡ l.yielded
