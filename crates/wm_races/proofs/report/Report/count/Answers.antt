use Rattle.std.proofs.Common.{sym, arith}
use Rattle.wm_races.proofs.ListLemmas.{get_inside}
use Rattle.wm_races.proofs.ReportLemmas.{count-le}
use Rattle.wm_races.proofs.report.Report.count.Goals as goal

pub overflow_add-race : goal.overflow_add-race
overflow_add-race c =
    let h = count-le c.args.self.now.lines c.args.line c.in-Some.race.now (sym c.in-Some.ensures) in
    omega (arith, h)

pub returns-in_default-clause-lines : goal.returns-in_default-clause-lines
returns-in_default-clause-lines c = absurd (get_inside c.args.self.now.lines c.args.line c.requires.line (sym c.in_default.ensures))
