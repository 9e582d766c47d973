use Rattle.std.proofs.Common.{subst}
use Rattle.std.proofs.lemmas.Result.{IfOk-at_ok, IfOk-weaker}
use Rattle.wm_run.specs.RoundPlans.{AreWorkOf}
use Rattle.wm_run.proofs.RoundLaws.{ends_from}
use Rattle.wm_run.proofs.rounds.round.run_in.Goals as goal

pub returns : goal.returns
returns g c =
    let is_open = g.G.Gate.is_open c.args.gate.now in
    let m = c.args.module.now in
    let plan = c.args.plan.now in
    let works = IfOk-at_ok (λ (v : _). AreWorkOf is_open m plan.starts plan.steps v.items) c.in_ok-results.was c.run_workers-results.ensures in
    IfOk-weaker c.all_ends.result _ _ (λ ends is. ends_from is_open m plan.starts plan.steps ends.items (subst (AreWorkOf is_open m plan.starts plan.steps) is works)) c.all_ends.ensures
