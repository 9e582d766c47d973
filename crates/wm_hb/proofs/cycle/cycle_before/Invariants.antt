use Rattle.std.proofs.Common.{◌≡◌, length}
use Rattle.wm_event.specs.LoggedRun.{execution}
use Rattle.wm_hb.specs.Cycle.{IsNextEvent}
use Rattle.wm_hb.proofs.CycleLaws.{LeadsBack, blanks}
use Rattle.wm_hb.proofs.cycle.cycle_before.Given as goal

-- the links lead back to the next event of each thread that was entered
abbrev pub invariant-loop-backwards : goal.invariant-loop-backwards
invariant-loop-backwards l = record {
  next : IsNextEvent (execution l.candidate) l.scheduled l.event;
  size : length l.entered.items ≡ length l.candidate.log;
  back : LeadsBack (execution l.candidate) l.scheduled l.entered.items l.backwards.items l.event;
}

-- each turn enters one more thread
abbrev pub decreases-loop-backwards : goal.decreases-loop-backwards
decreases-loop-backwards l = blanks l.entered.items
