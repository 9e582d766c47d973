use Rattle.std.proofs.Common.{◌+◌}
use Rattle.wm_races.specs.Groups.{AreGroupsFrom}
use Rattle.wm_races.specs.Progress.{IsReportBelow}
use Rattle.wm_races.proofs.scan.add_block.Given as goal

-- the races of the events so far are reported
abbrev pub invariant-loop-groups : goal.invariant-loop-groups
invariant-loop-groups g l = record {
  lists : AreGroupsFrom l.before l.table l.start l.groups-items;
  report : IsReportBelow l.before l.sites (l.start + l.groups-index) l.report;
}
