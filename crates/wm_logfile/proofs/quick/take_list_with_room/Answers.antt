use Rattle.std.proofs.lemmas.Result.{IfOk-weaker}
use Rattle.wm_logfile.specs.Reading.{traverse}
use Rattle.wm_logfile.proofs.Taking.{list_taken}
use Rattle.wm_logfile.proofs.quick.take_list_with_room.Goals as goal

pub returns : goal.returns
returns g c =
    IfOk-weaker c.take_items.result _ _
    (λ xs h. list_taken (g.R.ItemTaker.levels c.args.taker.now) (traverse (g.R.ItemTaker.reads c.args.taker.now) 0) c.args.reader.now c.open_list.new.reader xs c.take_items.new.reader c.in_ok-open_list.ensures h)
    c.take_items.ensures
