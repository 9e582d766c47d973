-- The line of what a judgement of a document found answers the document.
use Rattle.std.proofs.Common.{◌≡◌, ℕ, List, subst}
use Rattle.wm_check.specs.declared.judged.JudgedDocument.{JudgedDocument}
use Rattle.wm_check.specs.declared.judged.JudgedDocument.TheVariants.{Refused, Misshapen, Judged}
use Rattle.wm_check.specs.Judged.{IsJudgedDocument}
use Rattle.wm_event.specs.Faults.{Judges}
use Rattle.wm_event.specs.LoggedRun.{LoggedRun, execution}
use Rattle.wm_event.specs.Rules.{IsValid}
use Rattle.wm_event.specs.Shape.{IsWellShaped}
use Rattle.wm_rules.specs.declared.scan.Finding.TheVariants.{Valid}
use Rattle.wm_litmus.specs.declared.answer.Answer.{Answer}
use Rattle.wm_litmus.specs.Races.{AnswersEventRaces, ReportsOwnRaces}
use Rattle.wm_litmus.specs.Races.AnswersEventRaces.{listed}
use Rattle.wm_rules.specs.declared.scan.Finding.{Finding}
use Rattle.wm_rules.specs.Finding.{judgement_of}
use Rattle.wm_explain.specs.Parts.{AllHold}
use Rattle.wm_litmus.specs.EventExplanation.{AnswersEventGraph, AreStatedBy, HaveEventGrounds}
use Rattle.wm_litmus.specs.EventExplanation.HaveEventGrounds.{refused as groundless, stated}
use Rattle.wm_litmus.specs.EventExplanation.AnswersEventGraph.{pictured}
use Rattle.wm_litmus.specs.Lines.{judgement_status}
use Rattle.wm_litmus.specs.Prints.{Gives, ended}
use Rattle.wm_litmus.specs.Rules.{AnswersRules, AnswersRun, judged_status, judged_text, zeros}
use Rattle.wm_litmus.specs.Rules.AnswersRules.{read, refused}
use Rattle.wm_litmus.specs.Rules.AnswersRun.{judged, misshapen}

pub answers_rules : (bytes : List ℕ) (found : JudgedDocument) (status : ℕ) (text : List ℕ) → IsJudgedDocument bytes (zeros 16) found
    → status ≡ judged_status found → text ≡ ended (judged_text found) → AnswersRules bytes status text
answers_rules bytes (Refused fault) status text is status_is text_is = refused fault is status_is text_is
answers_rules bytes (Misshapen m) status text is status_is text_is = read m.log m.witness is.0 (misshapen m.fault is.1.first status_is text_is)
answers_rules bytes (Judged run finding) status text is status_is text_is =
    read run.log run.witness is.0
    (subst (λ (r : LoggedRun). AnswersRun r status text) is.1.run_is (judged (judgement_of finding) is.1.shape is.1.judged status_is text_is))

-- the sentences on it are grounds, too
pub event_grounds : (bytes : List ℕ) (found : JudgedDocument) (status : ℕ) (reasons : List ℕ) → IsJudgedDocument bytes (zeros 16) found
    → status ≡ judged_status found → AreStatedBy found reasons → HaveEventGrounds bytes status reasons
event_grounds bytes (Refused fault) status reasons is status_is are = groundless status_is
event_grounds bytes (Misshapen m) status reasons is status_is are = groundless status_is
event_grounds bytes (Judged run finding) status reasons is status_is are =
    stated run.log run.witness is.0
    (subst IsWellShaped is.1.run_is is.1.shape)
    are.0 are.1
    (subst (λ (r : LoggedRun). AllHold r are.0) is.1.run_is (are.2 is.1.judged))

-- a picture with the status of its judgement, too
pub answers_picture : (bytes : List ℕ) (run : LoggedRun) (finding : Finding) (status : ℕ) (text : List ℕ) → IsJudgedDocument bytes (zeros 16) (Judged run finding)
    → status ≡ judgement_status (judgement_of finding) → AnswersEventGraph bytes status text
answers_picture bytes run finding status text is status_is =
    pictured run.log run.witness (judgement_of finding) is.0
    (subst IsWellShaped is.1.run_is is.1.shape)
    (subst (λ (r : LoggedRun). Judges (execution r) (judgement_of finding)) is.1.run_is is.1.judged)
    status_is

-- and the races of a valid run answer it
pub answers_races : (bytes : List ℕ) (run : LoggedRun) (closure : List (List ℕ)) (answer : Answer) → IsJudgedDocument bytes (zeros 16) (Judged run (Valid closure))
    → Gives (ReportsOwnRaces run) answer → Gives (AnswersEventRaces bytes) answer
answers_races bytes run closure answer is reports =
    listed run.log run.witness is.0
    (subst IsWellShaped is.1.run_is is.1.shape)
    (subst (λ (r : LoggedRun). IsValid (execution r)) is.1.run_is is.1.judged)
    (subst (λ (r : LoggedRun). Gives (ReportsOwnRaces r) answer) is.1.run_is reports)
