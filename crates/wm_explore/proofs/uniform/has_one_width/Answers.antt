use Rattle.wm_access.specs.declared.AccessWidth.TheVariants.{One, Two, Four, Eight}
use Rattle.wm_explore.proofs.UniformModules.{mixed_of, uniform_of}
use Rattle.wm_explore.proofs.uniform.has_one_width.Goals as goal

pub returns-then-funcs_keep_width-clause-uniform : goal.returns-then-funcs_keep_width-clause-uniform
returns-then-funcs_keep_width-clause-uniform c =
    λ e. uniform_of c.args.module.now One c.as_slice-funcs.result.now c.as_slice-funcs.ensures (c.funcs_keep_width.ensures.kept c.if-funcs_keep_width.true)

pub returns-then-funcs_keep_width-2-clause-uniform : goal.returns-then-funcs_keep_width-2-clause-uniform
returns-then-funcs_keep_width-2-clause-uniform c =
    λ e. uniform_of c.args.module.now Two c.as_slice-funcs.result.now c.as_slice-funcs.ensures (c.funcs_keep_width-2.ensures.kept c.if-funcs_keep_width-2.true)

pub returns-then-funcs_keep_width-3-clause-uniform : goal.returns-then-funcs_keep_width-3-clause-uniform
returns-then-funcs_keep_width-3-clause-uniform c =
    λ e. uniform_of c.args.module.now Four c.as_slice-funcs.result.now c.as_slice-funcs.ensures (c.funcs_keep_width-3.ensures.kept c.if-funcs_keep_width-3.true)

pub returns-clause-uniform : goal.returns-clause-uniform
returns-clause-uniform c =
    λ e. uniform_of c.args.module.now Eight c.as_slice-funcs.result.now c.as_slice-funcs.ensures (c.funcs_keep_width-4.ensures.kept e)

pub returns-clause-mixed : goal.returns-clause-mixed
returns-clause-mixed c =
    λ e. mixed_of c.args.module.now c.as_slice-funcs.result.now c.as_slice-funcs.ensures
    (c.funcs_keep_width.ensures.broken c.if-funcs_keep_width.false) (c.funcs_keep_width-2.ensures.broken c.if-funcs_keep_width-2.false)
    (c.funcs_keep_width-3.ensures.broken c.if-funcs_keep_width-3.false) (c.funcs_keep_width-4.ensures.broken e)
