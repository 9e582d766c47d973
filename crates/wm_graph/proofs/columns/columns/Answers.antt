use Rattle.std.proofs.Common.{◌≡◌, ◌∙◌, ◌+◌, ◌++◌, All, List, Some, ap, arith, drop, map, slice_get, subst, sym}
use Rattle.std.proofs.lemmas.List.Elements.{All-push}
use Rattle.std.proofs.lemmas.Option.{slice_get-get_or, slice_get-map}
use Rattle.std.specs.Option.{option_map}
use Rattle.wm_event.specs.declared.log.ThreadLog.{ThreadLog}
use Rattle.wm_graph.specs.declared.columns.Column.{Column}
use Rattle.wm_graph.specs.Columns.{IsMarkedBy, events_of}
use Rattle.wm_graph.proofs.ColumnLaws.{taken_one}
use Rattle.wm_graph.proofs.columns.columns.Goals as goal

pub loop-thread-preserved : goal.loop-thread-preserved
loop-thread-preserved c =
    let i = c.loop-thread.thread-index in
    let columns = c.loop-thread.columns in
    let column = c.in_ok-column_of.field-0 in
    let events = λ (thread : ThreadLog). thread.events in
    let all = map events c.args.log.now in
    let item : slice_get c.args.log.now i ≡ Some c.thread-item.result = subst (λ items. slice_get items i ≡ Some c.thread-item.result) c.threads-thread-items.ensures.value
    (slice_get-get_or c.threads-thread-items.result.now i c.thread-item.result (omega (arith, c.loop-thread-test.true)) ∙ ap Some (sym c.thread-item.is)) in
    let here : slice_get all i ≡ Some (events_of column) = slice_get-map events c.args.log.now i ∙ ap (option_map events) item ∙ ap Some (sym c.in_ok-column_of.ensures.events) in
    let marked = λ (column : Column). All (IsMarkedBy c.args.breach) column.nodes in
    record {
      columns = subst (λ (columns : List Column). map events_of columns ++ drop (i + 1) all ≡ all) (sym c.in_ok-push.ensures.ok)
          (taken_one events_of columns column all i c.loop-thread.invariant.columns here);
      marks = subst (All marked) (sym c.in_ok-push.ensures.ok) (All-push marked columns column c.loop-thread.invariant.marks c.in_ok-column_of.ensures.marks);
    }
