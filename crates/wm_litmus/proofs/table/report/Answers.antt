use Rattle.std.proofs.Common.{◌<◌, ◌^◌, arith, length}
use Rattle.std.proofs.lemmas.Result.{IfOk-weaker}
use Rattle.wm_litmus.specs.Rounds.{outcomes}
use Rattle.wm_litmus.proofs.Gathering.{all_reported, reported_next}
use Rattle.wm_litmus.proofs.table.report.Goals as goal

pub loop-run-preserved : goal.loop-run-preserved
loop-run-preserved c =
    let small : length c.args.runs.now < 2 ^ 64 = omega arith in
    reported_next c.args.runs.now c.loop-run.run-index c.run-item.result c.loop-run.table.counts c.count.new.self.counts c.loop-run-test.true small c.run-item.is c.loop-run.invariant
    c.in_ok-count.ensures

pub returns : goal.returns
returns c =
    IfOk-weaker c.text.result _ _
    (λ text is. is (outcomes c.args.runs.now) (all_reported c.args.runs.now c.loop-run.run-index c.loop-run.table.counts c.loop-run-test.false c.loop-run.invariant))
    c.text.ensures
