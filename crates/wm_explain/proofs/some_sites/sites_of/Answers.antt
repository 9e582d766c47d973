use Rattle.std.proofs.Common.{◌≡◌, Some}
use Rattle.std.specs.Prelude.{slice_get}
use Rattle.wm_replay.proofs.Logs.{item_at, places_in}
use Rattle.wm_explain.proofs.some_sites.sites_of.Goals as goal

pub first_positions-requires : goal.first_positions-requires
first_positions-requires c =
    let is : slice_get c.args.log.now c.loop-number.number ≡ Some c.stated-item.result =
    item_at c.args.log.now c.threads-stated-items.result.now c.loop-number.number c.stated-item.result c.threads-stated-items.ensures.value c.loop-number-test.true c.stated-item.is in
    places_in c.args.log.now c.loop-number.number c.stated-item.result c.threads-stated-items.ensures.keys is
