use Rattle.std.proofs.Common.{List, All, subst, arith}
use Rattle.wm_ast.specs.declared.module.DataSegment.{DataSegment}
use Rattle.wm_valid.specs.Valid.{GoodData}
use Rattle.wm_valid.proofs.sections.segments.Goals as goal

pub returns-clause-good : goal.returns-clause-good
returns-clause-good c =
    subst (λ (ds : List DataSegment). All (GoodData c.args.module.now) ds) c.as_slice-one-items.ensures (λ k d h. c.loop-one.invariant k d (omega (arith, h, c.loop-one-test.false)))
