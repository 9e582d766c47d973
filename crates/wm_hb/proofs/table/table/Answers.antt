use Rattle.std.proofs.Common.{◌≡◌, ◌<◌, [], ◌∷◌, ◌++◌, arith, get_or, length, length-append, slice_get, Some, subst, sym, ap, ◌∙◌}
use Rattle.std.proofs.lemmas.Option.{slice_get-get_or}
use Rattle.wm_event.specs.declared.event.EventKey.{EventKey}
use Rattle.wm_event.specs.declared.witness.Witness.{Witness}
use Rattle.wm_hb.specs.Table.{IsRow, IsSmall, IsTable, StandsAt}
use Rattle.wm_hb.proofs.TableLaws.{small_more, table_more}
use Rattle.wm_hb.proofs.table.table.Goals as goal

pub row_of-row-requires-clause-small : goal.row_of-row-requires-clause-small
row_of-row-requires-clause-small c = let e = c.as_slice.ensures.value in subst IsSmall (sym e) c.loop-key.invariant.small

pub row_of-row-requires-clause-table : goal.row_of-row-requires-clause-table
row_of-row-requires-clause-table c = subst (IsTable c.args.candidate.now c.args.from) (sym c.as_slice.ensures.value) c.loop-key.invariant.table

pub loop-key-preserved : goal.loop-key-preserved
loop-key-preserved c =
    let x = c.args.candidate.now in
    let rows = c.loop-key.rows.items in
    let order = c.as_slice-order.result.now in
    let blank : EventKey = record { thread = 0; number = 0 } in
    let key = get_or order c.loop-key.key-index blank in
    let inside : c.loop-key.key-index < length order = omega arith in
    let e : order ≡ x.witness.order = c.as_slice-order.ensures ∙ ap (λ (w : Witness). w.order) c.witness.ensures.value in
    let here : StandsAt x c.loop-key.key-index key = subst (λ o. slice_get o c.loop-key.key-index ≡ Some key) e (slice_get-get_or order c.loop-key.key-index blank inside) in
    let stands : StandsAt x (length rows) key = subst (λ n. StandsAt x n key) (sym c.loop-key.invariant.size) here in
    let row : IsRow x rows c.args.from key c.row_of-row.result = subst (λ t. IsRow x t c.args.from key c.row_of-row.result) c.as_slice.ensures.value c.row_of-row.ensures in
    let p : c.push.new.self.items ≡ rows ++ c.row_of-row.result ∷ [] = c.in_ok-push.ensures.items in
    record {
      size = (let s = c.loop-key.invariant.size in let l = length-append rows (c.row_of-row.result ∷ []) in rw p (omega (arith, s, l)));
      table = subst (IsTable x c.args.from) (sym p) (table_more x rows c.row_of-row.result c.args.from key c.loop-key.invariant.table stands row);
      small = subst IsSmall (sym p) (small_more x rows c.row_of-row.result c.args.from key c.loop-key.invariant.small row);
    }

pub row_of-row-requires-clause-stands : goal.row_of-row-requires-clause-stands
row_of-row-requires-clause-stands c =
    let x = c.args.candidate.now in
    let order = c.as_slice-order.result.now in
    let blank : EventKey = record { thread = 0; number = 0 } in
    let key = get_or order c.loop-key.key-index blank in
    let inside : c.loop-key.key-index < length order = c.loop-key-test.true in
    let e : order ≡ x.witness.order = c.as_slice-order.ensures ∙ ap (λ (w : Witness). w.order) c.witness.ensures.value in
    let here : StandsAt x c.loop-key.key-index key = subst (λ o. slice_get o c.loop-key.key-index ≡ Some key) e (slice_get-get_or order c.loop-key.key-index blank inside) in
    subst (λ n. StandsAt x n key) (sym (ap length c.as_slice.ensures.value ∙ c.loop-key.invariant.size)) here
