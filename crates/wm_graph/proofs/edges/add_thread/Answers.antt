use Rattle.std.proofs.Common.{◌<◌, ◌≤◌, arith, get_or, length, subst}
use Rattle.std.proofs.lemmas.List.Elements.{All-from_all_within, AllWithin-more, AllWithin-upto}
use Rattle.wm_graph.specs.Edges.{HasShownEdgesTo}
use Rattle.wm_graph.proofs.ColumnLaws.{blank}
use Rattle.wm_graph.proofs.EdgeLaws.{at_any_default, kept_shown_edges_to, keeps_after}
use Rattle.wm_graph.proofs.edges.add_thread.Goals as goal

pub loop-event-preserved : goal.loop-event-preserved
loop-event-preserved c =
    let x = c.args.candidate.now in
    let shown = c.args.shown.now in
    let events = c.args.thread.now.events in
    let i = c.loop-event.event-index in
    let new = c.add_shown_event.new.edges in
    let inside : i < length c.as_slice-event-items.result.now = omega (arith, c.loop-event-test.true) in
    let here = at_any_default (HasShownEdgesTo x shown new) c.as_slice-event-items.result.now i blank inside c.in_ok-add_shown_event.ensures.complete in
    record {
      right = c.in_ok-add_shown_event.ensures.right;
      kept = keeps_after c.args.edges.now c.loop-event.edges new c.loop-event.invariant.kept c.in_ok-add_shown_event.ensures.kept;
      complete = AllWithin-more (HasShownEdgesTo x shown new) events 0 i
          (λ k d low high. kept_shown_edges_to x shown c.loop-event.edges new (get_or events k d) c.in_ok-add_shown_event.ensures.kept (c.loop-event.invariant.complete k d low high))
          (λ d. subst (λ items. HasShownEdgesTo x shown new (get_or items i d)) c.as_slice-event-items.ensures (here d));
    }

pub returns-clause-complete : goal.returns-clause-complete
returns-clause-complete c =
    let events = c.args.thread.now.events in
    let i = c.loop-event.event-index in
    let all : length events ≤ i = subst (λ items. length items ≤ i) c.as_slice-event-items.ensures (omega (arith, c.loop-event-test.false)) in
    let has_edges = HasShownEdgesTo c.args.candidate.now c.args.shown.now c.loop-event.edges in
    All-from_all_within has_edges events (AllWithin-upto has_edges events 0 i (length events) all c.loop-event.invariant.complete)
