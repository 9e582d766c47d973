use Rattle.wm_explore.proofs.LeavingOut.{one_more_left}
use Rattle.wm_explore.proofs.copies.without.Goals as goal

pub loop-place-preserved : goal.loop-place-preserved
loop-place-preserved c = record {
  kept =
      one_more_left c.args.number c.args.stretch.first c.args.stretch.end c.loop-place.place c.args.thread.now.events c.as_slice-events.result.now c.loop-place.kept.items _ c.renumbered.result _ c.requires.places
      c.as_slice-events.ensures c.requires.some c.loop-place.auto.place c.loop-place-test.true c.renumbered.ensures c.loop-place.invariant.kept c.in_ok-push.ensures.items;
}
