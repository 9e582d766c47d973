use Rattle.std.proofs.Common.{◌≡◌, map, take}
use Rattle.wm_event.specs.Event.{key_of}
use Rattle.wm_event.proofs.writes.keys_of.Given as goal

abbrev pub invariant-loop-event : goal.invariant-loop-event
invariant-loop-event l = l.keys.items ≡ map key_of (take l.event-index l.event-items)
