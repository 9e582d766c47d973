use Rattle.std.proofs.lemmas.Result.{IfOk-weaker}
use Rattle.wm_litmus.proofs.Answering.{answers_check}
use Rattle.wm_litmus.proofs.check.check_answer.Goals as goal

pub returns : goal.returns
returns g c =
    let verdict = c.in_ok-verdict.ensures in
    IfOk-weaker c.of_verdict.result _ _
    (λ answer prints. answers_check c.args.module_bytes.now c.args.document_bytes.now c.in_ok-verdict.verdict _ _ verdict.allowed verdict.refused verdict.broken
    prints.status_is prints.text_is)
    c.of_verdict.ensures
