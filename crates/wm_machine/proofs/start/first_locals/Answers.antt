use Rattle.std.proofs.Common.{sym}
use Rattle.wm_machine.proofs.Arguments.{fits_here, arguments_more}
use Rattle.wm_machine.proofs.start.first_locals.Goals as goal

pub of-requires : goal.of-requires
of-requires c = rw c.width.ensures (fits_here c.args.params.now c.args.args.now c.loop-index.index _ c.loop-index-test.true c.requires.count c.requires.range)

pub loop-index-preserved : goal.loop-index-preserved
loop-index-preserved c =
    rw (c.in_ok-push.ensures.items, c.of.ensures, c.width.ensures, c.loop-index.invariant)
    (sym (arguments_more c.args.params.now c.args.args.now c.loop-index.index _ c.loop-index-test.true c.requires.count))
