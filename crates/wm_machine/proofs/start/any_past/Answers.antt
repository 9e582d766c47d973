use Rattle.std.proofs.Common.{sym, ◌∙◌}
use Rattle.wm_machine.proofs.Arguments.{past_here, none_past_more}
use Rattle.wm_machine.proofs.start.any_past.Goals as goal

pub returns-then-is_past : goal.returns-then-is_past
returns-then-is_past c =
    sym (past_here c.args.params.now c.args.args.now c.loop-index.index _ c.loop-index-test.true c.requires (sym c.is_past.ensures ∙ c.if-is_past.true))

pub loop-index-preserved : goal.loop-index-preserved
loop-index-preserved c =
    none_past_more c.args.params.now c.args.args.now c.loop-index.index _ c.loop-index-test.true c.requires c.loop-index.invariant (sym c.is_past.ensures ∙ c.if-is_past.false)
