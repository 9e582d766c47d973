use Rattle.wm_part.proofs.PickLaw.{pick-lies-within}
use Rattle.wm_part.proofs.law.pick_lies_within.Goals as goal

pub returns : goal.returns
returns c = pick-lies-within
