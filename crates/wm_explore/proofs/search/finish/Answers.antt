use Rattle.std.proofs.Common.{◌≡◌, ℕ, List, refl, sym, ap, subst}
use Rattle.wm_event.specs.declared.event.EventKey.{EventKey}
use Rattle.wm_event.specs.declared.log.ThreadLog.{ThreadLog}
use Rattle.wm_replay.specs.Complete.{CompletesLog}
use Rattle.wm_explore.specs.Executions.{IsFinished, ends_of}
use Rattle.wm_explore.specs.Judging.{IsPermission}
use Rattle.wm_explore.specs.Search.{EndsFound, Lists}
use Rattle.wm_explore.specs.declared.judge.Permission.{Permission}
use Rattle.wm_explore.proofs.Progressing.{bounded, found, found_before, found_so, never, unfinished, without_run}
use Rattle.wm_explore.proofs.search.finish.Goals as goal

-- what the answer says of the events in the order in which they arrived
permission : (log : List ThreadLog) (initial : List ℕ) (given arrived : List EventKey) (answer this : Permission) → given ≡ arrived → answer ≡ this → IsPermission log given initial answer
    → IsPermission log arrived initial this
permission log initial given arrived answer this same is h = subst (λ (ks : List EventKey). IsPermission log ks initial this) same (subst (IsPermission log given initial) is h)

pub returns-then-ends_found : goal.returns-then-ends_found
returns-then-ends_found c events starts fine progress =
    found_so c.args.module.now starts events c.args.state.now fine c.args.progress.now progress c.requires.ends c.args.nexts.now c.requires.nexts
    (subst (λ fs. EndsFound fs c.args.nexts.now) c.as_slice.ensures.value (c.ends_found.ensures c.if-ends_found.true))

pub returns-in-NoRun : goal.returns-in-NoRun
returns-in-NoRun c events starts fine progress =
    without_run c.args.module.now starts events c.args.state.now fine c.args.progress.now progress c.requires.ends c.in-NoRun.field-0 (subst (CompletesLog c.args.module.now c.args.state.now.log) c.in-NoRun.is c.in_ok-log.ensures)

pub returns-then-not-is_finished : goal.returns-then-not-is_finished
returns-then-not-is_finished c events starts fine progress =
    unfinished c.args.module.now starts events c.args.state.now fine c.args.progress.now progress c.requires.ends c.in-Completed.log
    (subst (CompletesLog c.args.module.now c.args.state.now.log) c.in-Completed.is c.in_ok-log.ensures)
    (subst (λ ts. IsFinished ts → ⊥) c.threads.ensures.value (c.if-not-is_finished.ensures.not refl))

pub returns-then-is_listed : goal.returns-then-is_listed
returns-then-is_listed c events starts fine progress =
    found_before c.args.module.now starts events c.args.state.now fine c.args.progress.now progress c.requires.ends c.in-Completed.log
    (subst (CompletesLog c.args.module.now c.args.state.now.log) c.in-Completed.is c.in_ok-log.ensures)
    (subst (λ fs. Lists fs (ends_of c.in-Completed.log)) c.as_slice-2.ensures.value (c.if-is_listed.ensures.listed refl))

pub returns-in_ok-push-in-With : goal.returns-in_ok-push-in-With
returns-in_ok-push-in-With c events starts fine progress =
    found c.args.module.now starts events c.args.state.now fine c.args.progress.now progress c.requires.ends c.in-Completed.log
    (subst (CompletesLog c.args.module.now c.args.state.now.log) c.in-Completed.is c.in_ok-log.ensures)
    c.initial.result.now c.initial.ensures c.in-With.witness
    (permission c.in-Completed.log c.initial.result.now c.as_slice-arrived.result.now c.args.state.now.arrived _ _ c.as_slice-arrived.ensures c.in-With.is c.in_ok-witness.ensures).0
    (permission c.in-Completed.log c.initial.result.now c.as_slice-arrived.result.now c.args.state.now.arrived _ _ c.as_slice-arrived.ensures c.in-With.is c.in_ok-witness.ensures).1
    (subst IsFinished c.threads.ensures.value (c.if-not-is_finished.ensures.finished refl))
    (λ lists. c.if-is_listed.ensures.not refl (subst (λ fs. Lists fs (ends_of c.in-Completed.log)) (sym c.as_slice-2.ensures.value) lists))
    (record { work = c.args.progress.now.work; finished = c.push.new.self; met = c.args.progress.now.met }) refl c.in_ok-push-in-With.ensures.items refl

pub returns-in-Never : goal.returns-in-Never
returns-in-Never c events starts fine progress =
    never c.args.module.now starts events c.args.state.now fine c.args.progress.now progress c.requires.ends c.in-Completed.log
    (subst (CompletesLog c.args.module.now c.args.state.now.log) c.in-Completed.is c.in_ok-log.ensures)
    c.initial.result.now c.initial.ensures
    (permission c.in-Completed.log c.initial.result.now c.as_slice-arrived.result.now c.args.state.now.arrived _ _ c.as_slice-arrived.ensures c.in-Never.is c.in_ok-witness.ensures)

pub returns-in-Unknown : goal.returns-in-Unknown
returns-in-Unknown c events starts fine progress =
    bounded c.args.module.now starts events c.args.state.now c.args.progress.now c.meet.new.self progress (ap (λ v. v.items) c.meet.ensures.work) (ap (λ v. v.items) c.meet.ensures.finished)
    (λ log. c.meet.ensures.kept events log) (λ x is on. c.meet.ensures.met events x.log tt)
