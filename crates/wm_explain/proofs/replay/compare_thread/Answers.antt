use Rattle.wm_replay.proofs.Logs.{item_at, places_in}
use Rattle.wm_explain.proofs.replay.compare_thread.Goals as goal

pub compare-requires : goal.compare-requires
compare-requires c =
    let items = c.threads-threads.result.now in
    let stated = c.index-threads-number.result in
    places_in _ c.args.number stated c.threads-threads.ensures.keys
    (item_at _ items c.args.number stated c.threads-threads.ensures.value c.if-number-threads.false c.index-threads-number.is)
