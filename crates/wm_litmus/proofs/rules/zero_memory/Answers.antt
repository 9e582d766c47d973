use Rattle.wm_litmus.specs.Rules.{zeros}
use Rattle.wm_litmus.proofs.rules.zero_memory.Goals as goal

pub returns : goal.returns
unfolding zeros
returns c = c.zeros.ensures
