use Rattle.std.proofs.lemmas.Result.{IfOk-weaker}
use Rattle.wm_litmus.specs.Explanation.AnswersGraph.{told}
use Rattle.wm_litmus.proofs.Explaining.{refused_for}
use Rattle.wm_litmus.proofs.explanation.graph_answer.Goals as goal

pub returns-in-Ok : goal.returns-in-Ok
returns-in-Ok g c =
    IfOk-weaker c.show_log.result _ _ (λ answer graphs. graphs c.args.module_bytes.now c.in-Ok.ensures.read) c.show_log.ensures

pub returns-in-Err : goal.returns-in-Err
returns-in-Err g c =
    let mb = c.args.module_bytes.now in
    let db = c.args.document_bytes.now in
    IfOk-weaker c.refused_module.result _ _
    (λ answer said. told said.refusal (refused_for mb db said.refusal (rw said.is_refused at c.in-Err.ensures.refused)) said.prints.status_is said.prints.text_is)
    c.refused_module.ensures
