use Rattle.std.proofs.Common.{◌<◌, refl, subst}
use Rattle.std.specs.Prelude.{◌≢◌}
use Rattle.wm_explore.specs.Turns.{Rests}
use Rattle.wm_explore.proofs.Items.{all_below, item_at, one_more}
use Rattle.wm_explore.proofs.turn.others_rest.Goals as goal

pub loop-number-preserved-then-number-thread : goal.loop-number-preserved-then-number-thread
loop-number-preserved-then-number-thread c =
    let n = c.loop-number.number in
    let next = c.index-nexts-number.result in
    let is = item_at c.args.nexts.now c.args.nexts.now n next refl c.loop-number-test.true c.index-nexts-number.is in record {
      others = λ i x lt not at.
          one_more (λ j y. j ≢ c.args.thread → Rests c.args.state.now j y) c.args.nexts.now n next is (λ other. absurd (other c.if-number-thread.true))
          (λ j y below at_y other. c.loop-number.invariant.others j y below other at_y) i x lt at not;
    }

pub loop-number-preserved : goal.loop-number-preserved
loop-number-preserved c =
    let n = c.loop-number.number in
    let next = c.index-nexts-number.result in
    let is = item_at c.args.nexts.now c.args.nexts.now n next refl c.loop-number-test.true c.index-nexts-number.is in record {
      others = λ i x lt not at.
          one_more (λ j y. j ≢ c.args.thread → Rests c.args.state.now j y) c.args.nexts.now n next is (λ other. c.rests.ensures c.if-not-rests.false)
          (λ j y below at_y other. c.loop-number.invariant.others j y below other at_y) i x lt at not;
    }

pub returns : goal.returns
returns c all = record {
  place = subst (λ n. c.args.thread < n) c.len.ensures c.if-len-thread.false;
  others = λ i x not at.
      all_below (λ j y. j ≢ c.args.thread → Rests c.args.state.now j y) c.args.nexts.now c.loop-number.number c.loop-number-test.false
      (λ j y below at_y other. c.loop-number.invariant.others j y below other at_y) i x at not;
}
