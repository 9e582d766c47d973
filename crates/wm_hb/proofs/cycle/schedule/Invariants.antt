use Rattle.std.proofs.Common.{◌≡◌, length}
use Rattle.wm_event.specs.LoggedRun.{execution}
use Rattle.wm_hb.specs.Cycle.{IsSchedule}
use Rattle.wm_hb.proofs.CycleLaws.{remaining}
use Rattle.wm_hb.proofs.cycle.schedule.Given as goal

abbrev pub invariant-loop-event : goal.invariant-loop-event
invariant-loop-event l = record {
  size : length l.scheduled.items ≡ length l.candidate.log;
  is : IsSchedule (execution l.candidate) l.scheduled.items;
}

-- each turn schedules one more
abbrev pub decreases-loop-event : goal.decreases-loop-event
decreases-loop-event l = remaining l.candidate.log l.scheduled.items
