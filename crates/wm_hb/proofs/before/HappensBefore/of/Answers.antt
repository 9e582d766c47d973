use Rattle.std.proofs.Common.{◌≡◌, ℕ, List, sym, subst, ◌∙◌}
use Rattle.wm_event.specs.LoggedRun.{LoggedRun, execution}
use Rattle.wm_event.specs.Rules.{KeepsOrder}
use Rattle.wm_hb.specs.Steps.{IsHappensBefore}
use Rattle.wm_hb.proofs.Lanes.{are_lanes}
use Rattle.wm_hb.proofs.OrderLaws.{graph_ordered}
use Rattle.wm_hb.proofs.before.HappensBefore.of.Goals as goal

pub of-requires-clause-ordered : goal.of-requires-clause-ordered
of-requires-clause-ordered c =
    graph_ordered c.candidate-candidate.result.now c.in_ok-steps.steps.items c.in_ok-steps.ensures c.log-log.ensures.shape.order
    (subst (λ (x : LoggedRun). KeepsOrder (execution x)) (sym c.candidate-candidate.ensures.value) c.candidate-candidate.ensures.agrees)

pub of-requires-clause-lanes : goal.of-requires-clause-lanes
of-requires-clause-lanes c =
    let x = c.candidate-candidate.result.now in
    let agrees = subst (λ (x : LoggedRun). KeepsOrder (execution x)) (sym c.candidate-candidate.ensures.value) c.candidate-candidate.ensures.agrees in
    let log : c.threads-2.result.now ≡ x.log = c.threads-2.ensures.value ∙ c.log-log.ensures.value in
    rw log (are_lanes x c.in_ok-steps.steps.items c.in_ok-lanes.lanes.items c.in_ok-steps.ensures c.log-log.ensures.shape.order agrees c.in_ok-lanes.ensures)

pub invariant_of-result : goal.invariant_of-result
invariant_of-result c =
    let x = c.candidate-candidate.result.now in
    let agrees = subst (λ (x : LoggedRun). KeepsOrder (execution x)) (sym c.candidate-candidate.ensures.value) c.candidate-candidate.ensures.agrees in
    let happens : IsHappensBefore x c.in_ok-steps.steps.items = record { edges = c.in_ok-steps.ensures; agrees = agrees } in
    subst (λ (graph : List (List ℕ)). IsHappensBefore x graph) (sym c.in_ok-closure.ensures) happens
