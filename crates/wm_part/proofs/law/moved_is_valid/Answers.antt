use Rattle.wm_part.proofs.MovedLaw.{moved-is-valid}
use Rattle.wm_part.proofs.law.moved_is_valid.Goals as goal

pub returns : goal.returns
returns c = moved-is-valid
