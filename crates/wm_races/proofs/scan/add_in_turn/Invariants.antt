use Rattle.std.proofs.Common.{◌+◌}
use Rattle.wm_races.specs.Progress.{IsReportBelow}
use Rattle.wm_races.proofs.scan.add_in_turn.Given as goal

-- the races of the events so far are reported
abbrev pub invariant-loop-index : goal.invariant-loop-index
invariant-loop-index l = IsReportBelow l.before l.sites (l.start + l.index) l.report
