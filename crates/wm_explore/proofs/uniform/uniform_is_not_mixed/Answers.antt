use Rattle.wm_explore.proofs.UniformModules.{uniform-is-not-mixed}
use Rattle.wm_explore.proofs.uniform.uniform_is_not_mixed.Goals as goal

pub returns : goal.returns
returns c = uniform-is-not-mixed
