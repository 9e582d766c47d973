use Rattle.std.proofs.Common.{string_bytes, subst}
use Rattle.std.proofs.lemmas.Result.{IfOk-weaker}
use Rattle.wm_check.specs.declared.judged.JudgedDocument.TheVariants.{Refused, Misshapen, Judged}
use Rattle.wm_check.specs.Judged.{IsJudgedDocument}
use Rattle.wm_event.specs.Faults.{Judges}
use Rattle.wm_event.specs.LoggedRun.{execution}
use Rattle.wm_rules.specs.declared.scan.Finding.TheVariants.{Broken}
use Rattle.wm_rules.specs.Finding.{HasClosure, judgement_of}
use Rattle.wm_litmus.specs.Races.AnswersEventRaces.{told}
use Rattle.wm_litmus.specs.Rules.{zeros}
use Rattle.wm_litmus.proofs.JudgedDocuments.{answers_races, answers_rules}
use Rattle.wm_litmus.proofs.RaceAnswers.{one_not_zero, two_not_zero}
use Rattle.wm_litmus.proofs.races.races_of_judged.Goals as goal

pub list_valid-requires-clause-closure : goal.list_valid-requires-clause-closure
list_valid-requires-clause-closure g c κs _ =
    let is = subst (IsJudgedDocument c.args.bytes.now (zeros 16)) c.in-Judged.is c.requires in
    subst (HasClosure c.in-Judged.candidate) c.in-Valid.is is.1.closed

pub list_valid-requires-clause-valid : goal.list_valid-requires-clause-valid
list_valid-requires-clause-valid g c κs _ =
    let is = subst (IsJudgedDocument c.args.bytes.now (zeros 16)) c.in-Judged.is c.requires in
    subst (λ f. Judges (execution c.in-Judged.candidate) (judgement_of f)) c.in-Valid.is is.1.judged

pub returns-in-Valid : goal.returns-in-Valid
returns-in-Valid g c =
    let bytes = c.args.bytes.now in
    let is = subst (λ f. IsJudgedDocument bytes (zeros 16) (Judged c.in-Judged.candidate f)) c.in-Valid.is (subst (IsJudgedDocument bytes (zeros 16)) c.in-Judged.is c.requires) in
    IfOk-weaker c.list_valid.result _ _ (λ answer reports. answers_races bytes c.in-Judged.candidate c.in-Valid.closure answer is reports) c.list_valid.ensures

pub returns : goal.returns
returns g c =
    let bytes = c.args.bytes.now in
    let is = subst (λ f. IsJudgedDocument bytes (zeros 16) (Judged c.in-Judged.candidate f)) c.in-Broken.is (subst (IsJudgedDocument bytes (zeros 16)) c.in-Judged.is c.requires) in
    IfOk-weaker c.judged.result _ _
    (λ answer prints.
    told (one_not_zero answer.status prints.status_is)
    (answers_rules bytes (Judged c.in-Judged.candidate (Broken c.in-Broken.fault)) answer.status (string_bytes answer.text) is prints.status_is prints.text_is))
    c.judged.ensures

pub returns-in-Refused : goal.returns-in-Refused
returns-in-Refused g c =
    let bytes = c.args.bytes.now in
    let is = subst (IsJudgedDocument bytes (zeros 16)) c.in-Refused.is c.requires in
    IfOk-weaker c.refused_document.result _ _
    (λ answer prints.
    told (two_not_zero answer.status prints.1.status_is)
    (answers_rules bytes (Refused c.in-Refused.fault) answer.status (string_bytes answer.text) is prints.1.status_is prints.1.text_is))
    c.refused_document.ensures

pub returns-in-Misshapen : goal.returns-in-Misshapen
returns-in-Misshapen g c =
    let bytes = c.args.bytes.now in
    let is = subst (IsJudgedDocument bytes (zeros 16)) c.in-Misshapen.is c.requires in
    IfOk-weaker c.refused_shape.result _ _
    (λ answer prints.
    told (two_not_zero answer.status prints.1.status_is)
    (answers_rules bytes (Misshapen c.in-Misshapen.misshapen) answer.status (string_bytes answer.text) is prints.1.status_is prints.1.text_is))
    c.refused_shape.ensures
