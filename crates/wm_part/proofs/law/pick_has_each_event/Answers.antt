use Rattle.wm_part.proofs.PickLaw.{pick-has-each-event}
use Rattle.wm_part.proofs.law.pick_has_each_event.Goals as goal

pub returns : goal.returns
returns c = pick-has-each-event
