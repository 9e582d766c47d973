use Rattle.std.proofs.lemmas.Result.{IfOk-weaker}
use Rattle.wm_litmus.proofs.Explaining.{answers_explain, refused_for}
use Rattle.wm_litmus.proofs.explanation.explain_answer.Goals as goal

pub returns-in-Ok : goal.returns-in-Ok
returns-in-Ok g c =
    IfOk-weaker c.explain_log.result _ _ (λ answer explains. explains c.args.module_bytes.now c.in-Ok.ensures.read) c.explain_log.ensures

pub returns-in-Err-Refused : goal.returns-in-Err-Refused
returns-in-Err-Refused g c =
    let mb = c.args.module_bytes.now in
    let db = c.args.document_bytes.now in
    let refused = rw c.in-Err-Refused.field-0-is at c.in-Err-Refused.ensures.refused in
    let r = c.in-Err-Refused.refusal in
    IfOk-weaker c.explain_refused.result _ _
    (λ answer explains. answers_explain mb db r answer (refused_for mb db r refused) explains)
    c.explain_refused.ensures
