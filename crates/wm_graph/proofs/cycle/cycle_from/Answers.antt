use Rattle.std.proofs.Common.{◌≡◌, ◌<◌, ◌∷◌, [], All, arith, length, length-append, subst, sym}
use Rattle.std.proofs.lemmas.Grind.{common_steps}
use Rattle.std.proofs.lemmas.List.Elements.{All-push}
use Rattle.wm_graph.specs.Cycle.{IsCycleEdge, Leads}
use Rattle.wm_graph.proofs.CycleLaws.{leads_more}
use Rattle.wm_graph.proofs.cycle.cycle_from.Goals as goal

pub loop-preserved : goal.loop-preserved
loop-preserved c =
    let right = IsCycleEdge c.args.candidate.now in
    let edge = c.in-Some.way.first in
    record {
      right = subst (All right) (sym c.in_ok-push.ensures.ok) (All-push right c.loop.edges edge c.loop.invariant.right c.in-Some.ensures.way.first);
      leads = subst (λ edges. Leads c.args.start edges edge.to) (sym c.in_ok-push.ensures.ok)
          (leads_more c.args.start c.loop.event c.loop.edges edge c.loop.invariant.leads c.in-Some.ensures.from);
    }

pub returns-then-eq : goal.returns-then-eq
returns-then-eq c =
    let right = IsCycleEdge c.args.candidate.now in
    let edge = c.in-Some.way.first in
    let back : edge.to ≡ c.args.start = grind (arith, common_steps) in
    let leads = leads_more c.args.start c.loop.event c.loop.edges edge c.loop.invariant.leads c.in-Some.ensures.from in
    record {
      right = subst (All right) (sym c.in_ok-push.ensures.ok) (All-push right c.loop.edges edge c.loop.invariant.right c.in-Some.ensures.way.first);
      closed = (c.args.start, subst (λ edges. Leads c.args.start edges c.args.start) (sym c.in_ok-push.ensures.ok) (subst (Leads c.args.start _) back leads));
      some = subst (λ edges. 0 < length edges) (sym c.in_ok-push.ensures.ok) (omega (arith, length-append c.loop.edges (edge ∷ [])));
    }
