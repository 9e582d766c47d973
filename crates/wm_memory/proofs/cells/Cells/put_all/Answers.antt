use Rattle.std.proofs.Common.{List, reverse, subst}
use Rattle.std.proofs.lemmas.List.{take_all}
use Rattle.wm_event.specs.declared.event.Event.{Event}
use Rattle.wm_memory.specs.Table.{PutsAll}
use Rattle.wm_memory.proofs.Tables.{all_taken}
use Rattle.wm_memory.proofs.cells.Cells.put_all.Goals as goal

pub loop-e-preserved : goal.loop-e-preserved
loop-e-preserved c = all_taken c.args.stores.now c.loop-e.e-index _ _ _ _ c.loop-e-test.true c.loop-e.invariant c.put.ensures

pub returns : goal.returns
returns c = subst (λ (es : List Event). PutsAll (reverse es) c.args.self.now c.loop-e.self) (take_all _ _ c.loop-e-test.false) c.loop-e.invariant
