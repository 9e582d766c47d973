use Rattle.std.proofs.Common.{◌≡◌, ◌∙◌, length, rules, subst, sym}
use Rattle.std.proofs.lemmas.Result.{IfErr-weaker, IfOk-at_ok, IfOk-weaker}
use Rattle.wm_recorder.specs.Recorder.{initial_of, threads_of}
use Rattle.wm_run.specs.Refusal.{AllStart}
use Rattle.wm_run.specs.RoundPlans.{AreEndsOf, IsReady, IsRoundPlan}
use Rattle.wm_valid.specs.Valid.{IsInit}
use Rattle.wm_run.proofs.Refusing.{gather_fault}
use Rattle.wm_run.proofs.RoundLaws.{programs_from, round_from, within_from}
use Rattle.wm_run.proofs.rounds.round.run_round.Goals as goal

pub gather-requires : goal.gather-requires
gather-requires g c =
    let is_open = g.G.Gate.is_open c.args.gate.now in
    let m = c.args.module.now in
    let plan = c.args.plan.now in
    let are = IfOk-at_ok (λ (v : _). AreEndsOf is_open m plan.starts plan.steps v.items) c.in_ok-ends.was c.run_locked-recorder.ensures.ends in
    programs_from is_open m plan.starts plan.steps c.in_ok-ends.ends.items are

pub returns-clause-round : goal.returns-clause-round
returns-clause-round g c =
    let is_open = g.G.Gate.is_open c.args.gate.now in
    let m = c.args.module.now in
    let plan = c.args.plan.now in
    let are = IfOk-at_ok (λ (v : _). AreEndsOf is_open m plan.starts plan.steps v.items) c.in_ok-ends.was c.run_locked-recorder.ensures.ends in
    let r = c.run_locked-recorder.result.0 in
    IfOk-weaker c.gather.result _ _ (λ run gathered. round_from is_open m plan c.in_ok-ends.ends.items r run c.own_runs_are_allowed.ensures are gathered) c.gather.ensures.gathered

pub returns-clause-within : goal.returns-clause-within
returns-clause-within g c =
    let is_open = g.G.Gate.is_open c.args.gate.now in
    let m = c.args.module.now in
    let plan = c.args.plan.now in
    let are = IfOk-at_ok (λ (v : _). AreEndsOf is_open m plan.starts plan.steps v.items) c.in_ok-ends.was c.run_locked-recorder.ensures.ends in
    let planned : IsRoundPlan plan = search rules in
    let r = c.run_locked-recorder.result.0 in
    IfOk-weaker c.gather.result _ _ (λ run gathered. within_from is_open m plan c.in_ok-ends.ends.items r run planned are gathered) c.gather.ensures.gathered

pub returns-clause-refused : goal.returns-clause-refused
returns-clause-refused g c =
    let is_open = g.G.Gate.is_open c.args.gate.now in
    let m = c.args.module.now in
    let plan = c.args.plan.now in
    let are = IfOk-at_ok (λ (v : _). AreEndsOf is_open m plan.starts plan.steps v.items) c.in_ok-ends.was c.run_locked-recorder.ensures.ends in
    let planned : IsRoundPlan plan = search rules in
    let r = c.run_locked-recorder.result.0 in
    let starts = subst (AllStart m) c.as_slice.ensures c.in_ok-check_starts.ensures.ok in
    let ready : IsReady m plan = record { planned = planned; starts = starts } in
    let over = c.run_locked-recorder.ensures.over in
    let init : IsInit m (initial_of r) = subst (IsInit m) (sym (over.initial_is ∙ c.in_ok-recorder.ensures.initial)) c.initial.ensures in
    let many : threads_of r ≡ length plan.starts = search (rules, over.threads_are, c.in_ok-recorder.ensures.threads) in
    IfErr-weaker c.gather.result _ _ (λ fault is. gather_fault is_open m plan c.in_ok-ends.ends.items r fault ready init many are is) c.gather.ensures.refused
