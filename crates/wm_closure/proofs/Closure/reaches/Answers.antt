use Rattle.std.proofs.Common.{◌≡◌, ◌<◌, ◌≤◌, ◌⊎◌, length, arith, ◌↔◌}
use Rattle.std.specs.Prelude.{slice_index}
use Rattle.std.proofs.lemmas.Bool.{leb-true, le-leb}
use Rattle.wm_closure.specs.Graph.{entry, IsOrdered, Reaches}
use Rattle.wm_closure.proofs.Chains.{none_reaches}
use Rattle.wm_closure.proofs.Reaching.{arrives_reaches, entry_read, read_inside}
use Rattle.wm_closure.proofs.Closure.reaches.Goals as goal

pub returns-then-to-graph : goal.returns-then-to-graph
returns-then-to-graph c =
    let ordered : IsOrdered c.args.self.now = rw c.self.view_is at c.self.invariant.0 in
    let out : (length c.args.self.now ≤ c.args.to) ⊎ ((c.args.to < length c.args.self.now) × (c.args.to ≤ c.args.from)) = rw (c.as_slice-graph.ensures.value, c.self.view_is) at c.then-to-graph.either in
    ((λ t. absurd (cc)), (λ r. absurd (none_reaches c.args.self.now c.args.from c.args.to ordered out r)))

pub overflow_add-from : goal.overflow_add-from
overflow_add-from c =
    let there : c.args.to < length c.self.inside.graph.items = rw c.as_slice-graph.ensures.value at c.if-to-graph.false in
    let l = read_inside c.self.inside.graph.items c.self.inside.lanes.items c.self.inside.width c.self.inside.arrivals.items c.self.invariant.1 c.self.invariant.2 c.args.from c.args.to c.if-from-to.false there
    c.index.result.now c.index.ensures in
    let s = c.self.inside.arrivals.small in
    let o = c.self.inside.arrivals.ok in
    omega (arith, l, s, o)

pub index-requires-2 : goal.index-requires-2
index-requires-2 c =
    let there : c.args.to < length c.self.inside.graph.items = rw c.as_slice-graph.ensures.value at c.if-to-graph.false in
    let l = read_inside c.self.inside.graph.items c.self.inside.lanes.items c.self.inside.width c.self.inside.arrivals.items c.self.invariant.1 c.self.invariant.2 c.args.from c.args.to c.if-from-to.false there
    c.index.result.now c.index.ensures in
    let o = c.self.inside.arrivals.ok.0 in
    omega (arith, l, o)

pub returns : goal.returns
returns c =
    let graph = c.self.inside.graph.items in
    let lanes = c.self.inside.lanes.items in
    let width = c.self.inside.width in
    let rows = c.self.inside.arrivals.items in
    let from = c.args.from in
    let to = c.args.to in
    let there : to < length graph = rw c.as_slice-graph.ensures.value at c.if-to-graph.false in
    let v = entry rows width from (slice_index lanes to) in
    let read : c.index-2.result.now ≡ v = entry_read graph lanes width rows c.self.invariant.1 c.self.invariant.2 from to c.if-from-to.false there c.index.result.now c.index-2.result.now c.index.ensures c.index-2.ensures in
    let reached : (v ≤ to) ↔ Reaches c.args.self.now from to = rw c.self.view_is at (arrives_reaches graph lanes width rows c.self.invariant.1 c.self.invariant.2 from to c.if-from-to.false there) in
    rw read ((λ t. reached.0 (leb-true v to t)), (λ r. le-leb v to (reached.1 r)))
