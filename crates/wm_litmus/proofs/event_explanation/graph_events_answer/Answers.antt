use Rattle.std.proofs.Common.{List, ℕ, ◌∙◌, ap, string_bytes, subst}
use Rattle.std.proofs.lemmas.Result.{IfOk-weaker}
use Rattle.wm_check.specs.declared.judged.JudgedDocument.TheVariants.{Refused, Misshapen}
use Rattle.wm_check.specs.Judged.{IsJudgedDocument}
use Rattle.wm_litmus.specs.EventExplanation.AnswersEventGraph.{told}
use Rattle.wm_litmus.specs.Lines.{judgement_status}
use Rattle.wm_litmus.specs.Rules.{zeros}
use Rattle.wm_litmus.proofs.JudgedDocuments.{answers_picture, answers_rules}
use Rattle.wm_litmus.proofs.event_explanation.graph_events_answer.Goals as goal

pub returns-in-Judged : goal.returns-in-Judged
returns-in-Judged g c =
    let bytes = c.args.bytes.now in
    let found = c.in_ok-judged.judged in
    let over = subst (λ (initial : List ℕ). IsJudgedDocument bytes initial found) c.zero_memory-initial.ensures c.in_ok-judged.ensures in
    let is = subst (IsJudgedDocument bytes (zeros 16)) c.in-Judged.is over in
    IfOk-weaker c.draw.result _ _
    (λ answer status.
    answers_picture bytes c.in-Judged.candidate c.in-Judged.finding answer.status (string_bytes answer.text) is (status ∙ ap judgement_status c.judgement.ensures))
    c.draw.ensures

pub returns-in-Refused : goal.returns-in-Refused
returns-in-Refused g c =
    let bytes = c.args.bytes.now in
    let found = c.in_ok-judged.judged in
    let over = subst (λ (initial : List ℕ). IsJudgedDocument bytes initial found) c.zero_memory-initial.ensures c.in_ok-judged.ensures in
    let is = subst (IsJudgedDocument bytes (zeros 16)) c.in-Refused.is over in
    IfOk-weaker c.refused_document.result _ _
    (λ answer prints.
    told prints.1.status_is (answers_rules bytes (Refused c.in-Refused.fault) answer.status (string_bytes answer.text) is prints.1.status_is prints.1.text_is))
    c.refused_document.ensures

pub returns : goal.returns
returns g c =
    let bytes = c.args.bytes.now in
    let found = c.in_ok-judged.judged in
    let over = subst (λ (initial : List ℕ). IsJudgedDocument bytes initial found) c.zero_memory-initial.ensures c.in_ok-judged.ensures in
    let is = subst (IsJudgedDocument bytes (zeros 16)) c.in-Misshapen.is over in
    IfOk-weaker c.refused_shape.result _ _
    (λ answer prints.
    told prints.1.status_is (answers_rules bytes (Misshapen c.in-Misshapen.misshapen) answer.status (string_bytes answer.text) is prints.1.status_is prints.1.text_is))
    c.refused_shape.ensures
