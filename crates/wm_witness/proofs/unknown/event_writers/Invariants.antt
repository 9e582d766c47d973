use Rattle.std.proofs.Common.{◌≡◌, replicate}
use Rattle.wm_event.specs.declared.event.EventId.TheVariants.{Init}
use Rattle.wm_witness.proofs.unknown.event_writers.Given as goal

abbrev pub invariant-loop : goal.invariant-loop
invariant-loop l = l.list ≡ replicate l.counter Init
