use Rattle.std.proofs.Common.{subst}
use Rattle.wm_event.specs.Shape.{IsListedAt}
use Rattle.wm_graph.proofs.edges.order_edge.Goals as goal

pub returns-then-second-first-clause-right : goal.returns-then-second-first-clause-right
returns-then-second-first-clause-right c =
    let x = c.args.candidate.now in
    let from_listed = subst (IsListedAt x.witness.order c.in_ok-first.first) c.in-At.is c.in_ok-first.ensures.listed in
    (c.in_ok-second.second, c.in_ok-first.first, c.in_ok-second.ensures.listed, from_listed, c.if-second-first.true)
