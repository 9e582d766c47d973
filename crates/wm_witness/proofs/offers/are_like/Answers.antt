use Rattle.std.proofs.Common.{◌≤◌, length, refl, subst, arith}
use Rattle.std.specs.Prelude.{All}
use Rattle.wm_event.specs.declared.event.EventId.TheVariants.{Init}
use Rattle.wm_event.specs.LoggedRun.{execution}
use Rattle.wm_event.specs.Rules.{IsTearFreeLike}
use Rattle.wm_writers.proofs.ListLemmas.{all-taken}
use Rattle.wm_witness.proofs.NewSplitLaw.{take-whole}
use Rattle.wm_witness.proofs.offers.are_like.Goals as goal

pub loop-id-preserved : goal.loop-id-preserved
loop-id-preserved c =
    all-taken (IsTearFreeLike (execution c.args.start.now) c.args.event.now) c.args.ids.now c.loop-id.id-index Init c.loop-id-test.true c.loop-id.invariant (c.if-not-is_like.ensures refl)

pub returns : goal.returns
returns c = λ t.
    let over : length c.args.ids.now ≤ c.loop-id.id-index = omega (arith, c.loop-id-test.false) in
    subst (All (IsTearFreeLike (execution c.args.start.now) c.args.event.now)) (take-whole c.args.ids.now c.loop-id.id-index over) c.loop-id.invariant
