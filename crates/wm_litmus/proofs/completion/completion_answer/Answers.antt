use Rattle.std.proofs.Common.{string_bytes, subst}
use Rattle.std.proofs.lemmas.Result.{IfOk-weaker}
use Rattle.wm_check.specs.Completed.{CompletesDocument}
use Rattle.wm_litmus.specs.Tasks.AnswersComplete.{completed, refused_for, without_run}
use Rattle.wm_litmus.proofs.completion.completion_answer.Goals as goal

pub returns-in-Text : goal.returns-in-Text
returns-in-Text c =
    let is = subst (CompletesDocument c.args.module_bytes.now c.args.document_bytes.now) c.in-Text.is c.in_ok-text.ensures in
    IfOk-weaker c.of_line.result _ _ (λ answer prints. completed (string_bytes c.in-Text.text) is prints.status_is prints.text_is) c.of_line.ensures

pub returns-in-Refused : goal.returns-in-Refused
returns-in-Refused c =
    let is = subst (CompletesDocument c.args.module_bytes.now c.args.document_bytes.now) c.in-Refused.is c.in_ok-text.ensures in
    IfOk-weaker c.of_verdict.result _ _ (λ answer prints. refused_for c.in-Refused.refusal is prints.status_is prints.text_is) c.of_verdict.ensures

pub returns-in-NoRun : goal.returns-in-NoRun
returns-in-NoRun c =
    let is = subst (CompletesDocument c.args.module_bytes.now c.args.document_bytes.now) c.in-NoRun.is c.in_ok-text.ensures in
    IfOk-weaker c.of_verdict-in-NoRun.result _ _ (λ answer prints. without_run c.in-NoRun.answer is prints.status_is prints.text_is) c.of_verdict-in-NoRun.ensures
