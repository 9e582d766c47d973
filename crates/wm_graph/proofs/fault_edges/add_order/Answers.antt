use Rattle.std.proofs.Common.{All, refl, subst, sym}
use Rattle.std.proofs.lemmas.List.Elements.{All-push}
use Rattle.wm_graph.specs.Edges.{IsRight}
use Rattle.wm_graph.specs.declared.edges.Edge.{Edge}
use Rattle.wm_graph.specs.declared.edges.EdgeKind.TheVariants.{Order}
use Rattle.wm_graph.proofs.fault_edges.add_order.Goals as goal

pub returns-in_ok-push : goal.returns-in_ok-push
returns-in_ok-push c =
    let right = IsRight c.args.candidate.now in
    let edge : Edge = record { from = c.args.from; to = c.args.to; kind = Order } in
    record { right = subst (All right) (sym c.in_ok-push.ensures.ok) (All-push right c.args.edges.now edge c.requires (c.if-precedes.ensures refl)) }
