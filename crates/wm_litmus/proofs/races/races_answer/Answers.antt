use Rattle.std.proofs.lemmas.Result.{IfOk-weaker}
use Rattle.wm_check.specs.declared.verdict.Verdict.TheVariants.{Refused}
use Rattle.wm_litmus.specs.Races.AnswersRaces.{told}
use Rattle.wm_litmus.proofs.Explaining.{refused_for}
use Rattle.wm_litmus.proofs.races.races_answer.Goals as goal

pub returns-in-Ok : goal.returns-in-Ok
returns-in-Ok g c =
    IfOk-weaker c.races_of_log.result _ _ (λ answer answers. answers c.in-Ok.ensures.read) c.races_of_log.ensures

pub returns-in-Err : goal.returns-in-Err
returns-in-Err g c =
    let mb = c.args.module_bytes.now in
    let db = c.args.document_bytes.now in
    IfOk-weaker c.refused_module.result _ _
    (λ answer said. told (Refused said.refusal) (refused_for mb db said.refusal (rw said.is_refused at c.in-Err.ensures.refused)) tt said.prints.status_is said.prints.text_is)
    c.refused_module.ensures
