use Rattle.std.proofs.Common.{◌≡◌, map, take}
use Rattle.wm_witness.specs.Unknown.{from_init}
use Rattle.wm_witness.proofs.unknown.thread_writers.Given as goal

abbrev pub invariant-loop-event : goal.invariant-loop-event
invariant-loop-event l = l.list ≡ map from_init (take l.event-index l.thread.events)
