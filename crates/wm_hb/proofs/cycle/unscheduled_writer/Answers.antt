use Rattle.std.proofs.Common.{◌≡◌, ◌<◌, ◌≤◌, arith, slice_get, Some, sym, subst, ⊎_elim}
use Rattle.std.proofs.lemmas.Bool.{cases_lt}
use Rattle.std.proofs.lemmas.Option.{get_or_from_slice_get, slice_get_within}
use Rattle.wm_event.specs.declared.event.EventId.TheVariants.{At}
use Rattle.wm_hb.proofs.CycleLaws.{found-none}
use Rattle.wm_hb.proofs.cycle.unscheduled_writer.Goals as goal

pub loop-writer-preserved : goal.loop-writer-preserved
loop-writer-preserved c =
    let items = c.writers-writer-items.result.now in
    let index = c.loop-writer.writer-index in
    let here = found-none _ c.unscheduled-found.result c.unscheduled-found.ensures c.if-is_some.ensures in
    record {
      items = c.loop-writer.invariant.items;
      scheduled = λ k w l at edge. ⊎_elim
          (λ (less : k < index). c.loop-writer.invariant.scheduled k w less at edge)
          (λ (last : index ≤ k).
          let same : k ≡ index = omega (arith, l, last) in
          here w (get_or_from_slice_get items index (At w) _ (subst (λ n. slice_get items n ≡ Some (At w)) same at)) edge)
          (cases_lt k index);
    }

pub returns : goal.returns
returns c w edge =
    let items = c.writers-writer-items.result.now in
    let at : slice_get items edge.reads.0 ≡ Some (At w) = subst (λ ws. slice_get ws edge.reads.0 ≡ Some (At w)) (sym c.loop-writer.invariant.items) edge.reads.1 in
    let inside = slice_get_within items edge.reads.0 (At w) at in
    let all = c.loop-writer-test.false in
    c.loop-writer.invariant.scheduled edge.reads.0 w (omega (arith, inside, all)) at edge
