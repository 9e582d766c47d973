use Rattle.std.proofs.Common.{◌∙◌, ◌<◌, ◌≤◌, arith, get_or, length, subst}
use Rattle.std.proofs.lemmas.List.Elements.{All-from_all_within, AllWithin-more, AllWithin-upto, at_read}
use Rattle.wm_graph.specs.Edges.{HasEdgesOf}
use Rattle.wm_graph.proofs.EdgeLaws.{kept_edges_of}
use Rattle.wm_graph.proofs.edges.edges.Goals as goal

pub loop-thread-preserved : goal.loop-thread-preserved
loop-thread-preserved c =
    let x = c.args.candidate.now in
    let shown = c.args.shown.now in
    let i = c.loop-thread.thread-index in
    let new = c.add_thread.new.edges in
    let inside : i < length c.threads-thread-items.result.now = omega (arith, c.loop-thread-test.true) in
    let here = at_read c.threads-thread-items.result.now (HasEdgesOf x shown new) i c.thread-item.result inside c.thread-item.is c.in_ok-add_thread.ensures.complete in
    record {
      right = c.in_ok-add_thread.ensures.right;
      complete = AllWithin-more (HasEdgesOf x shown new) x.log 0 i
          (λ k d low high. kept_edges_of x shown c.loop-thread.edges new (get_or x.log k d) c.in_ok-add_thread.ensures.kept (c.loop-thread.invariant.complete k d low high))
          (λ d. subst (λ items. HasEdgesOf x shown new (get_or items i d)) (c.threads-thread-items.ensures.value ∙ c.log.ensures.value) (here d));
    }

pub returns-clause-complete : goal.returns-clause-complete
returns-clause-complete c =
    let log = c.args.candidate.now.log in
    let i = c.loop-thread.thread-index in
    let all : length log ≤ i = subst (λ items. length items ≤ i) (c.threads-thread-items.ensures.value ∙ c.log.ensures.value) (omega (arith, c.loop-thread-test.false)) in
    let has_edges = HasEdgesOf c.args.candidate.now c.args.shown.now c.loop-thread.edges in
    All-from_all_within has_edges log (AllWithin-upto has_edges log 0 i (length log) all c.loop-thread.invariant.complete)
