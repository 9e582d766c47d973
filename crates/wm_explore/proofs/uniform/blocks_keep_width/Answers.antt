use Rattle.std.proofs.Common.{All, arith, subst}
use Rattle.wm_explore.specs.Uniform.{KeepsWidth}
use Rattle.wm_explore.proofs.uniform.blocks_keep_width.Goals as goal
use Rattle.wm_valid.proofs.SectionFacts.{prefix_more}

pub loop-block-preserved : goal.loop-block-preserved
loop-block-preserved c =
    prefix_more (All (KeepsWidth c.args.width)) c.args.blocks.now c.loop-block.block-index c.block-item.result c.loop-block-test.true c.block-item.is c.loop-block.invariant
    (subst (All (KeepsWidth c.args.width)) c.as_slice.ensures (c.block_keeps_width.ensures.kept c.if-not-block_keeps_width.false))

pub returns-clause-kept : goal.returns-clause-kept
returns-clause-kept c = λ e k d h. c.loop-block.invariant k d (omega (arith, h, c.loop-block-test.false))
