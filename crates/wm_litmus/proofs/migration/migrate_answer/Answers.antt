use Rattle.std.proofs.Common.{string_bytes}
use Rattle.std.proofs.lemmas.Result.{IfOk-weaker}
use Rattle.wm_litmus.specs.Tasks.AnswersMigrate.{migrated}
use Rattle.wm_litmus.proofs.Answering.{answers_fault}
use Rattle.wm_litmus.proofs.migration.migrate_answer.Goals as goal

pub returns-in-Ok : goal.returns-in-Ok
returns-in-Ok c =
    IfOk-weaker c.of_line.result _ _ (λ answer prints. migrated (string_bytes c.in-Ok.text) c.in-Ok.ensures.migrated prints.status_is prints.text_is) c.of_line.ensures

pub returns-in-Err : goal.returns-in-Err
returns-in-Err c =
    IfOk-weaker c.refused_document.result _ _
    (λ answer prints. answers_fault c.args.bytes.now answer.status (string_bytes answer.text) c.in-Err.fault prints.0 c.in-Err.ensures.misplaced c.in-Err.ensures.refused prints.1.status_is prints.1.text_is)
    c.refused_document.ensures
