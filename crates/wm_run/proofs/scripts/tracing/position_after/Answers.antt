use Rattle.std.proofs.Common.{◌∙◌, subst, sym}
use Rattle.wm_machine.specs.Reach.{HasEnded}
use Rattle.wm_replay.proofs.Needs.{ended_of_need}
use Rattle.wm_run.proofs.Running.{runs_of_other}
use Rattle.wm_run.proofs.scripts.tracing.position_after.Goals as goal

pub returns-in-Ended-clause-goes_on : goal.returns-in-Ended-clause-goes_on
returns-in-Ended-clause-goes_on c = λ runs.
    let thread = c.args.runner.now.thread in
    absurd (runs (subst HasEnded (sym (ended_of_need thread 0 c.in-Ended.field-0 (sym (c.next.ensures 0) ∙ c.in-Ended.is))) tt))

pub returns-clause-ended : goal.returns-clause-ended
returns-clause-ended c = λ over. absurd (runs_of_other c.args.runner.now.thread c.next.result (sym (c.next.ensures 0)) c.in_default.not-Ended over)
