use Rattle.std.proofs.Common.{subst}
use Rattle.wm_explore.specs.Uniform.{IsUniformModule, IsMixedModule}
use Rattle.wm_explore.proofs.UniformModules.{leaves_out_none, uniform_runs}
use Rattle.wm_explore.proofs.uniform.is_uniform.Goals as goal

pub returns : goal.returns
returns c = record {
  uniform = λ e. subst IsUniformModule c.module.ensures.same (c.has_one_width.ensures.uniform e);
  mixed = λ e. subst IsMixedModule c.module.ensures.same (c.has_one_width.ensures.mixed e);
  runs = λ e. uniform_runs c.args.module.now (subst IsUniformModule c.module.ensures.same (c.has_one_width.ensures.uniform e));
  all = λ e. leaves_out_none c.args.module.now (subst IsUniformModule c.module.ensures.same (c.has_one_width.ensures.uniform e));
}
