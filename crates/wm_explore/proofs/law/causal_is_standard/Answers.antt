use Rattle.wm_explore.proofs.StandardLaw.{causal-is-standard}
use Rattle.wm_explore.proofs.law.causal_is_standard.Goals as goal

pub returns : goal.returns
returns c = causal-is-standard
