use Rattle.wm_logfile.proofs.Taking.{TakenItems}
use Rattle.wm_logfile.proofs.quick.take_items.Given as goal

abbrev pub invariant-loop-index : goal.invariant-loop-index
invariant-loop-index g l = TakenItems (g.R.ItemTaker.levels l.taker) (g.R.ItemTaker.reads l.taker) l.initial.reader l.found.items l.index l.reader
