use Rattle.std.proofs.lemmas.List.{take_all}
use Rattle.std.proofs.Common.{subst, sym}
use Rattle.std.specs.List.{AllZip}
use Rattle.wm_event.specs.Fitting.{FitsLog}
use Rattle.wm_explore.specs.declared.exploration.Finished.{Finished}
use Rattle.wm_litmus.specs.Explore.{IsRowOf}
use Rattle.wm_litmus.proofs.Listings.{row_added}
use Rattle.wm_litmus.proofs.explore.outcome_rows.Goals as goal

pub outcome_row-requires : goal.outcome_row-requires
outcome_row-requires c =
    subst (λ (f : Finished). FitsLog f.log f.witness) (sym c.each-item.is) (c.requires c.loop-each.each-index c.each-item.result c.loop-each-test.true)

pub loop-each-preserved : goal.loop-each-preserved
loop-each-preserved c =
    row_added IsRowOf c.args.finished.now c.loop-each.each-index c.each-item.result c.loop-each.rows.items c.push.new.self.items c.in_ok-outcome_row.field-0
    c.loop-each-test.true c.each-item.is c.loop-each.invariant c.in_ok-outcome_row.ensures c.in_ok-push.ensures.items

pub returns : goal.returns
returns c = record {
  listed = c.loop-each.rows.items;
  are = subst (λ fs. AllZip IsRowOf fs c.loop-each.rows.items) (take_all c.loop-each.each-index c.args.finished.now c.loop-each-test.false) c.loop-each.invariant;
  same = c.sort_unstable.ensures.permutation;
}
