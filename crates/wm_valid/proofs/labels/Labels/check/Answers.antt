use Rattle.std.proofs.lemmas.Result.{err_from_is_err_and}
use Rattle.wm_valid.proofs.LabelLaws.{missing, no_table}
use Rattle.wm_valid.proofs.labels.Labels.check.Goals as goal

pub returns-in_err-get-clause-found : goal.returns-in_err-get-clause-found
returns-in_err-get-clause-found c last is-err = no_table c.args.self.now c.args.labels.now last c.loop-label.label-index c.loop-label-test.true c.in_err-get.ensures.found

pub returns-in_err-get-clause-kind : goal.returns-in_err-get-clause-kind
returns-in_err-get-clause-kind c =
    let p = err_from_is_err_and c.from_residual.result c.from_residual.ensures.1 in
    rw (p.1, p.2) (λ last. missing c.in_err-get.field-0.0 c.args.self.now c.args.labels.now last c.loop-label.label-index c.in_err-get.ensures.kind c.in_err-get.ensures.found c.loop-label-test.true)
