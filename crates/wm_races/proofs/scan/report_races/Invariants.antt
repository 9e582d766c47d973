use Rattle.std.proofs.Common.{◌-◌, ◌≤◌}
use Rattle.wm_races.specs.Progress.{IsReportBelow}
use Rattle.wm_races.proofs.scan.report_races.Given as goal

-- the races of the events so far are reported
abbrev pub invariant-loop-start : goal.invariant-loop-start
invariant-loop-start g l = record {
  within : l.start ≤ l.events;
  report : IsReportBelow l.before l.sites l.start l.report;
}

abbrev pub decreases-loop-start : goal.decreases-loop-start
decreases-loop-start g l = l.events - l.start
