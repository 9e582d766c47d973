use Rattle.std.proofs.Common.{length, sym, ap, subst, arith}
use Rattle.wm_event.specs.LoggedRun.{LoggedRun, execution}
use Rattle.wm_event.specs.Shape.{ListsEachOnce}
use Rattle.wm_races.specs.Report.{IsRaceReport}
use Rattle.wm_races.proofs.RaceListLaws.{race-report, report-none}
use Rattle.wm_races.proofs.scan.report_races.Goals as goal

pub loop-start-init : goal.loop-start-init
loop-start-init g c = record {
  within = omega arith;
  report = report-none c.args.before.now c.args.sites.now c.new-report.result c.new-report.ensures.empty c.new-report.ensures.gathered;
}

pub returns : goal.returns
returns g c =
    let run = c.args.before.now in
    let once : ListsEachOnce run.log run.witness.order = subst (λ (x : LoggedRun). ListsEachOnce x.log x.witness.order) c.candidate-candidate.ensures.value c.log-log.ensures.shape.order in
    let order = ap (λ (x : LoggedRun). length x.witness.order) c.candidate-candidate.ensures.value in
    let count = c.len-events.ensures in
    let list = ap (λ (w : LoggedRun). length w.witness.order) c.candidate-candidate.ensures.value in
    let witness = ap (λ w. length w.order) c.witness.ensures.value in
    let end = c.loop-start-test.false in
    subst (IsRaceReport (execution run) c.args.sites.now) (sym c.into_lines.ensures)
    (race-report run once c.args.sites.now c.loop-start.start c.loop-start.report (omega (arith, order, count, witness, end)) c.loop-start.invariant.report)
