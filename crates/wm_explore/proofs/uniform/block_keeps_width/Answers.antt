use Rattle.std.proofs.Common.{arith}
use Rattle.wm_explore.specs.Uniform.{KeepsWidth}
use Rattle.wm_explore.proofs.uniform.block_keeps_width.Goals as goal
use Rattle.wm_valid.proofs.SectionFacts.{prefix_more}

pub loop-instr-preserved : goal.loop-instr-preserved
loop-instr-preserved c =
    prefix_more (KeepsWidth c.args.width) c.args.block.now c.loop-instr.instr-index c.instr-item.result c.loop-instr-test.true c.instr-item.is c.loop-instr.invariant
    (c.keeps_width.ensures.kept c.if-not-keeps_width.false)

pub returns-clause-kept : goal.returns-clause-kept
returns-clause-kept c = λ e k d h. c.loop-instr.invariant k d (omega (arith, h, c.loop-instr-test.false))
