use Rattle.std.proofs.Common.{◌≡◌, ◌+◌, ◌-◌, ◌<◌, ◌≤◌, ℕ, List, [], ◌++◌, length, get_or, take, drop, ap, arith, refl, sym, subst, ◌∙◌}
use Rattle.std.specs.Prelude.{slice_index}
use Rattle.std.proofs.lemmas.List.{get_or_default, with_items_is}
use Rattle.wm_closure.specs.Graph.{LowersSources, sources_of}
use Rattle.wm_closure.proofs.Arriving.{AreLowered, are_arrivals, lowered_more}
use Rattle.wm_closure.proofs.arrivals.Goals as goal

-- what is read at a place of the graph are the sources of its node
sources_at : (graph : List (List ℕ)) (n : ℕ) (sources read : List ℕ) → n < length graph → sources ≡ read → read ≡ get_or graph n read → sources ≡ sources_of graph n
sources_at graph n sources read l e is = e ∙ is ∙ get_or_default graph n read [] l

pub lower_sources-requires-clause-before : goal.lower_sources-requires-clause-before
lower_sources-requires-clause-before c = λ i l.
    let graph = c.args.graph.now in
    let n = c.loop-node.node - 1 in
    let some : 0 < c.loop-node.node = c.loop-node-test.true in
    let small : c.loop-node.node ≤ length graph = c.loop-node.invariant.small in
    let there : n < length graph = omega (arith, some, small) in
    let read : c.as_slice.result.now ≡ sources_of graph n = sources_at graph n c.as_slice.result.now c.index-graph-node.result there c.as_slice.ensures c.index-graph-node.is in
    c.requires.ordered (slice_index c.as_slice.result.now i) n
    (subst (λ sources. (k : ℕ) × (k < length sources) × (slice_index sources k ≡ slice_index c.as_slice.result.now i)) read (i, l, refl))

pub loop-node-preserved : goal.loop-node-preserved
loop-node-preserved c =
    let graph = c.args.graph.now in
    let lanes = c.args.lanes.now in
    let width = c.args.width in
    let n = c.loop-node.node - 1 in
    let old = c.loop-node.rows.items in
    let new = c.lower_sources.new.rows in
    let before = c.loop-node.invariant in
    let some : 0 < c.loop-node.node = c.loop-node-test.true in
    let small : c.loop-node.node ≤ length graph = before.small in
    let there : n < length graph = omega (arith, some, small) in
    let again : c.loop-node.node ≡ n + 1 = omega (arith, some) in
    let read : c.as_slice.result.now ≡ sources_of graph n = sources_at graph n c.as_slice.result.now c.index-graph-node.result there c.as_slice.ensures c.index-graph-node.is in
    let given : LowersSources width (sources_of graph n) n (length (sources_of graph n)) c.deref_mut.result.now new = subst (λ (s : List ℕ). LowersSources width s n (length s) c.deref_mut.result.now new) read c.lower_sources.ensures.lowered in
    let step : LowersSources width (sources_of graph n) n (length (sources_of graph n)) old new = subst (λ (x : List ℕ). LowersSources width (sources_of graph n) n (length (sources_of graph n)) x new) c.deref_mut.ensures.value given in
    let lowered : AreLowered graph lanes width (n + 1) old = subst (λ (k : ℕ). AreLowered graph lanes width k old) again before.lowered in
    let rows : take c.loop-node.rows.len (new ++ drop (length new) old) ≡ new = with_items_is c.loop-node.rows new (c.lower_sources.ensures.size ∙ c.deref_mut.ensures.len) in
    record {
      small = omega (arith, small);
      size = ap length rows ∙ c.lower_sources.ensures.size ∙ ap length c.deref_mut.ensures.value ∙ before.size;
      lowered = subst (λ (x : List ℕ). AreLowered graph lanes width n x) (sym rows) (lowered_more graph lanes width n old new c.requires.ordered c.requires.lanes there step lowered);
    }

pub returns : goal.returns
returns c =
    let graph = c.args.graph.now in
    let lanes = c.args.lanes.now in
    let width = c.args.width in
    let rows = c.loop-node.rows.items in
    let end : c.loop-node.node ≡ 0 = (let l : c.loop-node.node ≤ 0 = c.loop-node-test.false in omega (arith, l)) in
    are_arrivals graph lanes width rows c.requires.ordered c.requires.lanes (subst (λ (k : ℕ). AreLowered graph lanes width k rows) end c.loop-node.invariant.lowered) c.loop-node.invariant.size
