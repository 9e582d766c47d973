use Rattle.wm_run.proofs.Ranges.{within_limits}
use Rattle.wm_run.proofs.own.own_runs_are_within_limits.Goals as goal

pub returns : goal.returns
returns c m run valid own within =
    let allowed = c.own_runs_are_allowed.ensures m run own.initial own own.is_init in
    within_limits m own.initial run valid own.is_init allowed.shape own.runs within
