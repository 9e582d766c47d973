use Rattle.std.proofs.Common.{List, All, subst, arith}
use Rattle.wm_ast.specs.declared.module.Func.{Func}
use Rattle.wm_valid.specs.Blame.{HasType}
use Rattle.wm_valid.proofs.SectionFacts.{prefix_more}
use Rattle.wm_valid.proofs.sections.types.Goals as goal

pub loop-func-preserved : goal.loop-func-preserved
loop-func-preserved c =
    prefix_more (HasType c.args.module.now) c.as_slice-func-items.result.now c.loop-func.func-index c.func-item.result c.loop-func-test.true c.func-item.is c.loop-func.invariant (c.has_type.ensures.good c.if-not-has_type.false)

pub returns-clause-good : goal.returns-clause-good
returns-clause-good c =
    subst (λ (ds : List Func). All (HasType c.args.module.now) ds) c.as_slice-func-items.ensures (λ k d h. c.loop-func.invariant k d (omega (arith, h, c.loop-func-test.false)))
