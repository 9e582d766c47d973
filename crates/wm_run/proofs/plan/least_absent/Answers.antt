use Rattle.std.proofs.Common.{get_or}
use Rattle.std.proofs.lemmas.Option.{slice_get-get_or}
use Rattle.wm_run.specs.declared.turn.Turn.TheVariants.{Step}
use Rattle.wm_run.proofs.Absent.{least_with}
use Rattle.wm_run.proofs.plan.least_absent.Goals as goal

pub loop-turn-preserved : goal.loop-turn-preserved
loop-turn-preserved c =
    let turns = c.args.turns.now in
    let turn = get_or turns c.loop-turn.turn-index (Step 0) in
    let at = slice_get-get_or turns c.loop-turn.turn-index (Step 0) c.loop-turn-test.true in
    let lesser = c.lesser.ensures in
    least_with c.args.threads turns c.loop-turn.turn-index c.loop-turn.least c.thread-thread.result c.lesser.result turn
    c.loop-turn.invariant at c.thread-thread.ensures c.if-thread-threads.false lesser.below lesser.below_first lesser.one
