use Rattle.std.proofs.Common.{◌≡◌, arith}
use Rattle.wm_logfile.proofs.Taking.{no_items_taken, one_more_taken, items_taken}
use Rattle.wm_logfile.proofs.quick.take_items.Goals as goal

pub loop-index-init : goal.loop-index-init
loop-index-init g c =
    no_items_taken (g.R.ItemTaker.levels c.args.taker.now) (g.R.ItemTaker.reads c.args.taker.now) c.args.reader.now c.in_ok-found.found.items c.in_ok-found.ensures.items

pub returns-then-take_end_array : goal.returns-then-take_end_array
returns-then-take_end_array g c =
    rw c.from_vec.ensures (items_taken (g.R.ItemTaker.levels c.args.taker.now) (g.R.ItemTaker.reads c.args.taker.now) c.args.reader.now c.loop-index.found.items c.loop-index.index c.loop-index.reader c.take_end_array.new.self c.loop-index.invariant (grind arith))

pub loop-index-preserved : goal.loop-index-preserved
loop-index-preserved g c =
    let same : c.take_end_array.new.self ≡ c.loop-index.reader = grind arith in
    rw (c.in_ok-push.ensures.items, c.in_ok-reserve_rest.ensures) (one_more_taken (g.R.ItemTaker.levels c.args.taker.now) (g.R.ItemTaker.reads c.args.taker.now) c.args.reader.now c.loop-index.found.items c.loop-index.index c.loop-index.reader c.in_ok-item.item c.take.new.reader c.loop-index.invariant (rw same at c.in_ok-item.ensures))
