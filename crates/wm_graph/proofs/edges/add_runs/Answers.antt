use Rattle.std.proofs.Common.{◌<◌, ◌≤◌, Contains, arith, get_or, length, subst}
use Rattle.std.proofs.lemmas.List.Elements.{All-from_all_within, AllWithin-more, AllWithin-upto}
use Rattle.wm_graph.specs.Edges.{ShowsContrary}
use Rattle.wm_graph.proofs.EdgeLaws.{IsDrawn, at_any_default, blank_run, kept_drawn, keeps_after, reads_of_runs}
use Rattle.wm_graph.proofs.edges.add_runs.Goals as goal

pub loop-run-preserved : goal.loop-run-preserved
loop-run-preserved c =
    let x = c.args.candidate.now in
    let reader = c.args.reader in
    let runs = c.args.runs.now in
    let i = c.loop-run.run-index in
    let new = c.add_edge.new.edges in
    let edge = c.read_edge.result in
    let inside : i < length runs = omega (arith, c.loop-run-test.true) in
    let from_there = subst (λ to. Contains new record { from = edge.from; to = to; kind = edge.kind }) c.read_edge.ensures.to c.in_ok-add_edge.ensures.added in
    let there = subst (λ from. Contains new record { from = from; to = reader; kind = edge.kind }) c.read_edge.ensures.from from_there in
    let contrary_to = subst (λ to. ShowsContrary x new edge.from to) c.read_edge.ensures.to c.in_ok-add_edge.ensures.contrary in
    let contrary = subst (λ from. ShowsContrary x new from reader) c.read_edge.ensures.from contrary_to in
    let drawn : IsDrawn x new reader (get_or runs i blank_run) = λ k names. record {
      kind = edge.kind;
      has = c.read_edge.ensures.bytes k names;
      is_there = there;
      contrary = contrary;
    } in
    record {
      right = c.in_ok-add_edge.ensures.right;
      kept = keeps_after c.args.edges.now c.loop-run.edges new c.loop-run.invariant.kept c.in_ok-add_edge.ensures.kept;
      drawn = AllWithin-more (IsDrawn x new reader) runs 0 i
          (λ k d low high. kept_drawn x c.loop-run.edges new reader (get_or runs k d) c.in_ok-add_edge.ensures.kept (c.loop-run.invariant.drawn k d low high))
          (at_any_default (IsDrawn x new reader) runs i blank_run inside drawn);
    }

pub returns-clause-reads : goal.returns-clause-reads
returns-clause-reads c =
    let runs = c.args.runs.now in
    let i = c.loop-run.run-index in
    let all : length runs ≤ i = omega (arith, c.loop-run-test.false) in
    let is_drawn = IsDrawn c.args.candidate.now c.loop-run.edges c.args.reader in
    let drawn = All-from_all_within is_drawn runs (AllWithin-upto is_drawn runs 0 i (length runs) all c.loop-run.invariant.drawn) in
    reads_of_runs c.args.candidate.now c.loop-run.edges c.args.reader runs c.requires.runs drawn
