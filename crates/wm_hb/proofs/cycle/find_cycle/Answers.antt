use Rattle.std.proofs.Common.{subst, sym}
use Rattle.wm_event.specs.LoggedRun.{execution}
use Rattle.wm_hb.specs.Cycle.{IsSchedule}
use Rattle.wm_hb.proofs.CycleLaws.{all-scheduled}
use Rattle.wm_hb.proofs.cycle.find_cycle.Goals as goal

pub returns-in_default : goal.returns-in_default
returns-in_default c =
    let run = c.args.candidate.now in
    all-scheduled run c.as_slice.result.now (subst (IsSchedule (execution run)) (sym c.as_slice.ensures.value) c.in_ok-scheduled.ensures.schedule) c.in_default.ensures
