use Rattle.std.proofs.Common.{◌<◌, [], Ok, refl, sym, ap, subst, ◌∙◌, arith}
use Rattle.std.specs.Prelude.{IfOk}
use Rattle.std.proofs.lemmas.List.{append-nil}
use Rattle.wm_machine.specs.State.{State, config_of, need_of}
use Rattle.wm_machine.specs.Step.{step}
use Rattle.wm_replay.proofs.Needs.{ended_of_need, local_of_need, made_local}
use Rattle.wm_run.specs.Runner.{Advances}
use Rattle.wm_run.specs.Script.{ended, local}
use Rattle.wm_run.proofs.Running.{runs_of_local}
use Rattle.wm_run.proofs.runner.advance.Goals as goal

pub returns-in-Ended-clause-moves : goal.returns-in-Ended-clause-moves
returns-in-Ended-clause-moves c =
    let e = c.in-Ok.ensures.ended c.in-Ended.field-0 c.in-Ended.is in
    (e.1, refl, λ made limit. ended c.in-Ended.field-0 (ended_of_need c.args.thread.now 0 c.in-Ended.field-0 (e.0 0)))

pub returns-in-Local-clause-moves : goal.returns-in-Local-clause-moves
returns-in-Local-clause-moves c =
    let thread = c.args.thread.now in
    let is = ap Ok c.in-Local.is in (
      record {
        runs = runs_of_local thread (c.in-Ok.ensures.needs_nothing is 0);
        moves = c.in-Ok.ensures.moves is;
      },
      λ made limit below. record {
        items = [];
        steps = local (let lt : made < limit = omega (arith, below) in lt)
            (made_local (step thread.module 0 (config_of thread)) (config_of c.step.new.self)
            (local_of_need thread 0 (c.in-Ok.ensures.needs_nothing is 0)) (c.in-Ok.ensures.local is));
        adds = record { history = sym (append-nil c.args.recorder.now.history); initial = refl; threads = refl };
      },
    )

pub access-requires-clause-needed : goal.access-requires-clause-needed
access-requires-clause-needed c read =
    let a = c.in-Ok.ensures.access c.in-Access.op c.in-Access.is in
    sym (ap (need_of read) a.1 ∙ a.0 read)

pub returns-in-Access-clause-moves : goal.returns-in-Access-clause-moves
returns-in-Access-clause-moves c =
    let a = c.in-Ok.ensures.access c.in-Access.op c.in-Access.is in
    subst (λ (old : State). IfOk c.access.result (Advances c.args.number old c.args.recorder.now c.access.new.thread c.access.new.recorder)) a.1 c.access.ensures.moves
