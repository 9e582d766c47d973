use Rattle.std.proofs.Common.{◌≡◌, ◌∙◌, ◌++◌, ◌+◌, ◌<◌, All, List, Some, ap, arith, drop, get_or, length, map, slice_get, subst, sym}
use Rattle.std.proofs.lemmas.List.Elements.{All-push}
use Rattle.std.proofs.lemmas.Option.{slice_get-get_or}
use Rattle.wm_graph.specs.declared.columns.Node.{Node}
use Rattle.wm_graph.specs.Columns.{IsMarkedBy}
use Rattle.wm_graph.proofs.ColumnLaws.{blank, taken_one}
use Rattle.wm_graph.proofs.columns.column_of.Goals as goal

pub loop-event-preserved : goal.loop-event-preserved
loop-event-preserved c =
    let i = c.loop-event.event-index in
    let nodes = c.loop-event.nodes in
    let node = c.node_of.result in
    let events = c.args.thread.now.events in
    let inside : i < length c.as_slice-event-items.result.now = omega (arith, c.loop-event-test.true) in
    let here : slice_get events i ≡ Some node.event =
    subst (λ items. slice_get items i ≡ Some (get_or items i blank)) c.as_slice-event-items.ensures (slice_get-get_or c.as_slice-event-items.result.now i blank inside)
    ∙ ap Some (subst (λ items. get_or items i blank ≡ node.event) c.as_slice-event-items.ensures (sym c.node_of.ensures.event)) in
    record {
      events = subst (λ (nodes : List Node). map (λ (node : Node). node.event) nodes ++ drop (i + 1) events ≡ events) (sym c.in_ok-push.ensures.ok)
          (taken_one (λ (node : Node). node.event) nodes node events i c.loop-event.invariant.events here);
      marks = subst (All (IsMarkedBy c.args.breach)) (sym c.in_ok-push.ensures.ok)
          (All-push (IsMarkedBy c.args.breach) nodes node c.loop-event.invariant.marks c.node_of.ensures.marked);
    }
