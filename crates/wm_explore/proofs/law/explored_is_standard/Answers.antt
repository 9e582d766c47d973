use Rattle.wm_explore.proofs.StandardLaw.{explored-is-standard}
use Rattle.wm_explore.proofs.law.explored_is_standard.Goals as goal

pub returns : goal.returns
returns c = explored-is-standard
