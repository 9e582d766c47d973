use Rattle.std.proofs.Common.{◌<◌, ◌≤◌, ◌∙◌, sym, subst, arith}
use Rattle.wm_machine.specs.Reach.{HasEnded}
use Rattle.wm_replay.proofs.Needs.{ended_of_need, local_of_need}
use Rattle.wm_run.specs.Traced.{ended, spent, stepped}
use Rattle.wm_run.proofs.Running.{runs_of_access, runs_of_local}
use Rattle.wm_run.proofs.scripts.tracing.step_ahead.Goals as goal

pub returns-in-Ended : goal.returns-in-Ended
returns-in-Ended c =
    let thread = c.args.runner.now.thread in
    ended (subst HasEnded (sym (ended_of_need thread 0 c.in-Ended.field-0 (sym (c.next.ensures 0) ∙ c.in-Ended.is))) tt)

pub returns-in-Local : goal.returns-in-Local
returns-in-Local c =
    let thread = c.args.runner.now.thread in
    let is = sym (c.next.ensures 0) ∙ c.in-Local.is in
    stepped (runs_of_local thread is) (let lt : c.args.runner.now.made < c.args.limit = omega (arith, c.if-may_step-2.true) in lt) (local_of_need thread 0 is)

pub returns-in-Access-2 : goal.returns-in-Access-2
returns-in-Access-2 c =
    let thread = c.args.runner.now.thread in
    spent (runs_of_access thread c.in-Access.op (sym (c.next.ensures 0) ∙ c.in-Access.is)) (let le : c.args.limit ≤ c.args.runner.now.made = omega (arith, c.if-may_step.false) in le)

pub returns-in-Access-2-2 : goal.returns-in-Access-2-2
returns-in-Access-2-2 c =
    let thread = c.args.runner.now.thread in
    spent (runs_of_local thread (sym (c.next.ensures 0) ∙ c.in-Local.is)) (let le : c.args.limit ≤ c.args.runner.now.made = omega (arith, c.if-may_step-2.false) in le)
