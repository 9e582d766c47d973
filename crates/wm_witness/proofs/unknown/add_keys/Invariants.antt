use Rattle.std.proofs.Common.{◌≡◌, ◌++◌, map, take}
use Rattle.wm_event.specs.Event.{key_of}
use Rattle.wm_witness.proofs.unknown.add_keys.Given as goal

abbrev pub invariant-loop-event : goal.invariant-loop-event
invariant-loop-event l = l.order ≡ l.fn.order ++ map key_of (take l.event-index l.thread.events)
