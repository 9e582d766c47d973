use Rattle.std.proofs.lemmas.Result.{err_from_is_err_and}
use Rattle.wm_valid.proofs.LabelLaws.{missing}
use Rattle.wm_valid.proofs.labels.Labels.table.Goals as goal

pub returns-in_err-other-clause-kind : goal.returns-in_err-other-clause-kind
returns-in_err-other-clause-kind c =
    let p = err_from_is_err_and c.from_residual-in_err-other.result c.from_residual-in_err-other.ensures.1 in
    rw (p.1, p.2) (missing c.in_err-other.field-0.0 c.args.self.now c.args.labels.now c.args.last c.loop-label.label-index c.in_err-other.ensures.kind c.in_err-other.ensures.found c.loop-label-test.true)

pub returns-in_err-check-clause-kind : goal.returns-in_err-check-clause-kind
returns-in_err-check-clause-kind c =
    let p = err_from_is_err_and c.from_residual-in_err-check.result c.from_residual-in_err-check.ensures.1 in
    rw (p.1, p.2) (c.in_err-check.ensures.kind c.args.last)
