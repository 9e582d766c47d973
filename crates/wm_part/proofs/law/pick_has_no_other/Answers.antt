use Rattle.wm_part.proofs.PickLaw.{pick-has-no-other}
use Rattle.wm_part.proofs.law.pick_has_no_other.Goals as goal

pub returns : goal.returns
returns c = pick-has-no-other
