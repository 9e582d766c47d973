use Rattle.std.proofs.Common.{◌≡◌, ◌<◌, ◌≤◌, ◌+◌, ⊎_elim, inl, inr, IfSome, Some, arith, get_or, length, slice_get, subst, sym, ◌∙◌}
use Rattle.std.proofs.lemmas.Bool.{cases_lt}
use Rattle.std.proofs.lemmas.Option.{same_Some, slice_get-get_or, slice_get_within}
use Rattle.wm_event.specs.declared.event.EventId.TheVariants.{Init, At}
use Rattle.wm_event.specs.Witness.{writers_in}
use Rattle.wm_hb.specs.Table.{IsHop}
use Rattle.wm_hb.proofs.table.best.Goals as goal

pub loop-writer-preserved : goal.loop-writer-preserved
loop-writer-preserved c =
    let x = c.args.candidate.now in
    let items = c.writers-writer-items.result.now in
    let index = c.loop-writer.writer-index in
    let inside : index < length items = omega arith in
    let get : slice_get items index ≡ Some (get_or items index Init) = slice_get-get_or items index Init inside in
    record {
      items = c.loop-writer.invariant.items;
      hop = ⊎_elim
          (λ (s : c.shorter-best.result ≡ c.loop-writer.best). subst (λ o. IfSome o (λ hop. IsHop x c.args.table.now c.args.key hop)) (sym s) c.loop-writer.invariant.hop)
          (λ (s : c.shorter-best.result ≡ c.from_writer.result). subst (λ o. IfSome o (λ hop. IsHop x c.args.table.now c.args.key hop)) (sym s) c.from_writer.ensures.hop)
          c.shorter-best.ensures.one;
      thread = λ n h. c.shorter-best.ensures.least n (inl (c.loop-writer.invariant.thread n h));
      writers = λ a p k below at is s links leads. ⊎_elim
          (λ (l : k < index). c.shorter-best.ensures.least (length links + 1) (inl (c.loop-writer.invariant.writers a p k l at is s links leads)))
          (λ (l : index ≤ k).
          let same : k ≡ index = omega (arith, l, below) in
          let writer : get_or items index Init ≡ At p = same_Some (get_or items index Init) (At p) (sym get ∙ subst (λ k. slice_get items k ≡ Some (At p)) same at) in
          c.shorter-best.ensures.least (length links + 1) (inr (c.from_writer.ensures.least a p is writer s links leads)))
          (cases_lt k index);
    }

pub returns-clause-writers : goal.returns-clause-writers
returns-clause-writers c a p is s =
    let items = c.writers-writer-items.result.now in
    let e : items ≡ writers_in c.args.candidate.now.witness c.args.key = c.loop-writer.invariant.items in
    let at : slice_get items s.reads.0 ≡ Some (At p) = subst (λ w. slice_get w s.reads.0 ≡ Some (At p)) (sym e) s.reads.1 in
    let inside : s.reads.0 < length items = slice_get_within items s.reads.0 (At p) at in
    c.loop-writer.invariant.writers a p s.reads.0 (omega (arith, inside)) at is s
