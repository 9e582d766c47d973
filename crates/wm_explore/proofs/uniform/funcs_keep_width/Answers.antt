use Rattle.std.proofs.Common.{All, arith, subst}
use Rattle.wm_ast.specs.declared.module.Func.{Func}
use Rattle.wm_explore.specs.Uniform.{KeepsWidth}
use Rattle.wm_explore.proofs.uniform.funcs_keep_width.Goals as goal
use Rattle.wm_valid.proofs.SectionFacts.{prefix_more}

pub loop-func-preserved : goal.loop-func-preserved
loop-func-preserved c =
    prefix_more (λ (func : Func). All (All (KeepsWidth c.args.width)) func.blocks) c.args.funcs.now c.loop-func.func-index c.func-item.result c.loop-func-test.true c.func-item.is c.loop-func.invariant
    (subst (All (All (KeepsWidth c.args.width))) c.as_slice.ensures (c.blocks_keep_width.ensures.kept c.if-not-blocks_keep_width.false))

pub returns-clause-kept : goal.returns-clause-kept
returns-clause-kept c = λ e k d h. c.loop-func.invariant k d (omega (arith, h, c.loop-func-test.false))
