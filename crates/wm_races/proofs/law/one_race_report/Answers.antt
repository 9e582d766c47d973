use Rattle.wm_races.proofs.OneReportLaw.{one-race-report}
use Rattle.wm_races.proofs.law.one_race_report.Goals as goal

pub returns : goal.returns
returns c = one-race-report
