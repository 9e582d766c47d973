use Rattle.wm_explore.proofs.UniformLaw.{uniform-is-causal}
use Rattle.wm_explore.proofs.law.uniform_is_causal.Goals as goal

pub returns : goal.returns
returns c = uniform-is-causal
