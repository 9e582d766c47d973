use Rattle.wm_litmus.proofs.explore.coverage_of.Goals as goal

pub returns-then-is_uniform : goal.returns-then-is_uniform
returns-then-is_uniform c = (c.is_uniform.ensures.uniform c.if-is_uniform.true, c.is_uniform.ensures.all c.if-is_uniform.true)

pub returns-else-is_uniform : goal.returns-else-is_uniform
returns-else-is_uniform c = c.is_uniform.ensures.mixed c.if-is_uniform.false
