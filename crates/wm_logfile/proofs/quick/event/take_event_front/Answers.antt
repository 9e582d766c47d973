use Rattle.std.proofs.Common.{arith}
use Rattle.wm_logfile.proofs.TakingEvents.{event_front_taken}
use Rattle.wm_logfile.proofs.quick.event.take_event_front.Goals as goal

pub returns : goal.returns
returns c = grind (arith, event_front_taken)
