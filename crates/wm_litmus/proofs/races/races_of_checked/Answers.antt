use Rattle.std.proofs.Common.{subst}
use Rattle.std.proofs.lemmas.Result.{IfOk-weaker}
use Rattle.wm_check.specs.declared.verdict.Breach.TheVariants.{Replay, Rule}
use Rattle.wm_check.specs.declared.verdict.Refusal.TheVariants.{Shape}
use Rattle.wm_check.specs.declared.verdict.Verdict.TheVariants.{Refused, Broken}
use Rattle.wm_check.specs.Checked.{IsCheckOf, verdict_by, verdict_of}
use Rattle.wm_check.specs.Reading.{SaysOver}
use Rattle.wm_event.specs.Faults.{Judges}
use Rattle.wm_event.specs.LoggedRun.{execution}
use Rattle.wm_rules.specs.Finding.{HasClosure, judgement_of}
use Rattle.wm_sites.specs.Sites.{code_in}
use Rattle.wm_litmus.specs.Races.AnswersRaces.{listed}
use Rattle.wm_litmus.proofs.RaceAnswers.{told_over}
use Rattle.wm_litmus.proofs.races.races_of_checked.Goals as goal

pub list_allowed-requires-clause-positions : goal.list_allowed-requires-clause-positions
list_allowed-requires-clause-positions g c κs _ =
    let is = subst (IsCheckOf c.args.code.module.now c.args.document_bytes.now) c.in-Judged.is c.requires.kept in
    is.1.made_at

pub list_allowed-requires-clause-closure : goal.list_allowed-requires-clause-closure
list_allowed-requires-clause-closure g c κs _ =
    let is = subst (IsCheckOf c.args.code.module.now c.args.document_bytes.now) c.in-Judged.is c.requires.kept in
    subst (HasClosure c.in-Judged.candidate) c.in-Valid.is is.1.closed

pub list_allowed-requires-clause-valid : goal.list_allowed-requires-clause-valid
list_allowed-requires-clause-valid g c κs _ =
    let is = subst (IsCheckOf c.args.code.module.now c.args.document_bytes.now) c.in-Judged.is c.requires.kept in
    subst (λ f. Judges (execution c.in-Judged.candidate) (judgement_of f)) c.in-Valid.is is.1.judged

pub returns-in-Valid : goal.returns-in-Valid
returns-in-Valid g c =
    let m = c.args.code.module.now in
    let mb = c.args.code.bytes.now in
    let db = c.args.document_bytes.now in
    let run = c.in-Judged.candidate in
    let is = subst (IsCheckOf m db) c.in-Judged.is c.requires.kept in
    let says = subst (λ f. SaysOver m db (verdict_by run.log (judgement_of f))) c.in-Valid.is (subst (λ k. SaysOver m db (verdict_of k)) c.in-Judged.is c.requires.verdict) in
    let valid = subst (λ f. Judges (execution run) (judgement_of f)) c.in-Valid.is is.1.judged in
    IfOk-weaker c.list_allowed.result _ _ (λ answer reports. λ is_module. listed m run (is.0 mb is_module) (says mb is_module) valid reports) c.list_allowed.ensures

pub returns-in-Refused : goal.returns-in-Refused
returns-in-Refused g c =
    let m = c.args.code.module.now in
    let db = c.args.document_bytes.now in
    IfOk-weaker c.of_verdict.result _ _
    (λ answer prints.
    told_over (code_in c.args.code) db (Refused c.in-Refused.refusal) answer (subst (λ k. SaysOver m db (verdict_of k)) c.in-Refused.is c.requires.verdict) tt prints)
    c.of_verdict.ensures

pub returns-in-Misshapen : goal.returns-in-Misshapen
returns-in-Misshapen g c =
    let m = c.args.code.module.now in
    let db = c.args.document_bytes.now in
    IfOk-weaker c.of_verdict-in-Misshapen.result _ _
    (λ answer prints.
    told_over (code_in c.args.code) db (Refused (Shape c.in-Misshapen.misshapen.fault)) answer
    (subst (λ k. SaysOver m db (verdict_of k)) c.in-Misshapen.is c.requires.verdict) tt prints)
    c.of_verdict-in-Misshapen.ensures

pub returns-in-Differs : goal.returns-in-Differs
returns-in-Differs g c =
    let m = c.args.code.module.now in
    let db = c.args.document_bytes.now in
    IfOk-weaker c.of_verdict-in-Differs.result _ _
    (λ answer prints.
    told_over (code_in c.args.code) db (Broken (Replay c.in-Differs.answer)) answer (subst (λ k. SaysOver m db (verdict_of k)) c.in-Differs.is c.requires.verdict) tt prints)
    c.of_verdict-in-Differs.ensures

pub returns : goal.returns
returns g c =
    let m = c.args.code.module.now in
    let db = c.args.document_bytes.now in
    let run = c.in-Judged.candidate in
    let says = subst (λ f. SaysOver m db (verdict_by run.log (judgement_of f))) c.in-Broken.is (subst (λ k. SaysOver m db (verdict_of k)) c.in-Judged.is c.requires.verdict) in
    IfOk-weaker c.of_verdict-in-Broken.result _ _ (λ answer prints. told_over (code_in c.args.code) db (Broken (Rule c.in-Broken.fault)) answer says tt prints) c.of_verdict-in-Broken.ensures
