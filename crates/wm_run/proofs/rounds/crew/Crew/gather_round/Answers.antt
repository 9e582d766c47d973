use Rattle.std.proofs.Common.{◌≡◌, ◌∙◌, length, subst, sym}
use Rattle.std.proofs.lemmas.Result.{IfErr-weaker, IfOk-weaker}
use Rattle.wm_ast.specs.declared.module.Module.{Module}
use Rattle.wm_recorder.specs.Recorder.{initial_of, threads_of}
use Rattle.wm_run.specs.Gathered.{IsGathered, IsGatherFault}
use Rattle.wm_run.specs.RoundPlans.{AreEndsOf}
use Rattle.wm_valid.specs.Valid.{IsInit}
use Rattle.wm_run.proofs.Refusing.{gather_fault}
use Rattle.wm_run.proofs.RoundLaws.{programs_from, round_from, within_from}
use Rattle.wm_run.proofs.Slots.{full_are}
use Rattle.wm_run.proofs.rounds.crew.Crew.gather_round.Goals as goal

pub gather-requires : goal.gather-requires
gather-requires g c =
    let n = g.N.Assigned in
    let ends = c.in_ok-ends.ends.items in
    let are : AreEndsOf n.is_open n.program n.plan.starts n.plan.steps ends = full_are n.is_open n.program n.plan c.args.slots.items ends c.in_ok-ends.ensures c.requires.slots in
    λ k d lt. programs_from n.is_open n.program n.plan.starts n.plan.steps ends are k d lt ∙ sym c.args.self.now.of_module

pub returns-clause-round : goal.returns-clause-round
returns-clause-round g c =
    let n = g.N.Assigned in
    let ends = c.in_ok-ends.ends.items in
    let r = c.args.recorder in
    let same = c.args.self.now.of_module in
    let are : AreEndsOf n.is_open n.program n.plan.starts n.plan.steps ends = full_are n.is_open n.program n.plan c.args.slots.items ends c.in_ok-ends.ensures c.requires.slots in
    IfOk-weaker c.gather.result _ _ (λ run gathered. round_from n.is_open n.program n.plan ends r run c.own_runs_are_allowed.ensures are (subst (λ (m : Module). IsGathered m r ends run) same gathered)) c.gather.ensures.gathered

pub returns-clause-within : goal.returns-clause-within
returns-clause-within g c =
    let n = g.N.Assigned in
    let ends = c.in_ok-ends.ends.items in
    let r = c.args.recorder in
    let same = c.args.self.now.of_module in
    let are : AreEndsOf n.is_open n.program n.plan.starts n.plan.steps ends = full_are n.is_open n.program n.plan c.args.slots.items ends c.in_ok-ends.ensures c.requires.slots in
    IfOk-weaker c.gather.result _ _ (λ run gathered. within_from n.is_open n.program n.plan ends r run c.requires.ready.planned are (subst (λ (m : Module). IsGathered m r ends run) same gathered)) c.gather.ensures.gathered

pub returns-clause-refused : goal.returns-clause-refused
returns-clause-refused g c =
    let n = g.N.Assigned in
    let ends = c.in_ok-ends.ends.items in
    let r = c.args.recorder in
    let crew = c.args.self.now in
    let over = c.requires.over in
    let are : AreEndsOf n.is_open n.program n.plan.starts n.plan.steps ends = full_are n.is_open n.program n.plan c.args.slots.items ends c.in_ok-ends.ensures c.requires.slots in
    let init : IsInit n.program (initial_of r) = subst (IsInit n.program) (sym over.initial_is) crew.can.init in
    let many : threads_of r ≡ length n.plan.starts = over.threads_are ∙ crew.can.threads_are in
    IfErr-weaker c.gather.result _ _ (λ fault is. gather_fault n.is_open n.program n.plan ends r fault c.requires.ready init many are (subst (λ (m : Module). IsGatherFault m r ends fault) crew.of_module is)) c.gather.ensures.refused
