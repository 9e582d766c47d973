use Rattle.std.proofs.Common.{◌≡◌, Some, subst}
use Rattle.std.specs.Prelude.{slice_get}
use Rattle.wm_replay.specs.Comparison.{ComparesThread}
use Rattle.wm_replay.proofs.Logs.{all_below, first_other, item_at, places_in, runs_more}
use Rattle.wm_replay.proofs.LogPositions.{all_counted, other_has_positions, positions_more}
use Rattle.wm_replay.proofs.compare.replay_in_order.Goals as goal

pub replay_thread-requires : goal.replay_thread-requires
replay_thread-requires c =
    let is : slice_get c.args.log.now c.loop-number.number ≡ Some c.stated-item.result =
    item_at c.args.log.now c.threads-stated-items.result.now c.loop-number.number c.stated-item.result c.threads-stated-items.ensures.value c.loop-number-test.true c.stated-item.is in
    places_in c.args.log.now c.loop-number.number c.stated-item.result c.threads-stated-items.ensures.keys is

pub returns-in-Some : goal.returns-in-Some
returns-in-Some c =
    let is : slice_get c.args.log.now c.loop-number.number ≡ Some c.stated-item.result =
    item_at c.args.log.now c.threads-stated-items.result.now c.loop-number.number c.stated-item.result c.threads-stated-items.ensures.value c.loop-number-test.true c.stated-item.is in
    let compares = subst (ComparesThread c.args.module.now c.loop-number.number c.stated-item.result) c.in-Some.is c.in_ok-replayed.ensures.compares in
    record {
      answer = first_other c.args.module.now c.args.log.now c.loop-number.number c.stated-item.result c.in-Some.answer is c.loop-number.invariant.runs compares.0 compares.1;
      positions = other_has_positions c.args.module.now c.args.log.now c.loop-number.number c.stated-item.result c.in-Some.answer c.push.new.self.items compares.0;
    }

pub loop-number-preserved : goal.loop-number-preserved
loop-number-preserved c =
    let is : slice_get c.args.log.now c.loop-number.number ≡ Some c.stated-item.result =
    item_at c.args.log.now c.threads-stated-items.result.now c.loop-number.number c.stated-item.result c.threads-stated-items.ensures.value c.loop-number-test.true c.stated-item.is in
    let compares = subst (ComparesThread c.args.module.now c.loop-number.number c.stated-item.result) c.in_default.is c.in_ok-replayed.ensures.compares in
    let more =
    positions_more c.args.module.now c.args.log.now c.loop-number.positions.items c.push.new.self.items c.loop-number.number c.stated-item.result c.in_ok-replayed.replayed.positions
    c.loop-number.invariant.count c.loop-number.invariant.each is c.in_ok-replayed.ensures.positions c.in_ok-push.ensures.items
    in
    record {
      runs = runs_more c.args.module.now c.args.log.now c.loop-number.number c.stated-item.result c.loop-number.invariant.runs is compares;
      count = more.0;
      each = more.1;
    }

pub returns : goal.returns
returns c = record {
  answer = all_below c.args.module.now c.args.log.now c.threads-stated-items.result.now c.loop-number.number c.threads-stated-items.ensures.value c.loop-number-test.false c.loop-number.invariant.runs;
  positions = record {
    count = all_counted c.args.log.now c.threads-stated-items.result.now c.loop-number.positions.items c.loop-number.number c.threads-stated-items.ensures.value c.loop-number-test.false c.loop-number.auto.number-end
        c.loop-number.invariant.count;
    each = c.loop-number.invariant.each;
  };
}
