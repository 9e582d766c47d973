-- The answers of the commands `explain` and `graph`.
use Rattle.std.specs.Prelude.{◌≡◌, ℕ, List, ◌++◌, ⊤, string_bytes}
use Rattle.wm_ast.specs.declared.module.Module.{Module}
use Rattle.wm_check.specs.declared.verdict.Refusal.{Refusal}
use Rattle.wm_check.specs.declared.verdict.Verdict.{Verdict}
use Rattle.wm_check.specs.declared.verdict.Verdict.TheVariants.{Allowed, Refused, Broken}
use Rattle.wm_check.specs.Run.{IsCandidateOf, IsModuleOf}
use Rattle.wm_check.specs.Verdicts.{IsRefusedFor, Says}
use Rattle.wm_check.specs.Texts.{verdict_status, verdict_text}
use Rattle.wm_check.specs.declared.checker.CheckedLog.{CheckedLog}
use Rattle.wm_check.specs.declared.checker.CheckedLog.TheVariants as checked
use Rattle.wm_check.specs.declared.verdict.Breach.TheVariants.{Replay, Rule}
use Rattle.wm_check.specs.Checked.{verdict_by, verdict_of}
use Rattle.wm_event.specs.declared.rule.Judgement.{Judgement}
use Rattle.wm_event.specs.Faults.{Judges}
use Rattle.wm_event.specs.LoggedRun.{LoggedRun, execution}
use Rattle.wm_explain.specs.declared.part.Part.{Part}
use Rattle.wm_explain.specs.Parts.{AllHold, parts_text}
use Rattle.wm_rules.specs.Finding.{judgement_of}
use Rattle.wm_litmus.specs.declared.answer.Answer.{Answer}
use Rattle.wm_litmus.specs.Prints.{Prints, ended}

-- ---- the command `explain`

-- an answer prints the line of the verdict, and these sentences
pub record PrintsReasons (verdict : Verdict) (reasons : List ℕ) (answer : Answer) : Type 0 where
  pub status_is : answer.status ≡ verdict_status verdict
  pub text_is : string_bytes answer.text ≡ ended (verdict_text verdict) ++ reasons

-- an answer prints the line of the verdict, and sentences that aren't specified
abbrev pub Explains : Verdict → Answer → Type 0
Explains verdict answer = (reasons : List ℕ) × PrintsReasons verdict reasons answer

-- the sentences are parts of which all that they state holds of the run, if its judgement is right
abbrev pub AreStatedOf : LoggedRun → Judgement → List ℕ → Type 0
AreStatedOf run judgement reasons = (parts : List Part) × (reasons ≡ parts_text parts) × (Judges (execution run) judgement → AllHold run parts)

-- an answer prints the line of a judged run, and sentences on it
abbrev pub ExplainsRun : LoggedRun → Judgement → Answer → Type 0
ExplainsRun run judgement answer = (reasons : List ℕ) × PrintsReasons (verdict_by run.log judgement) reasons answer × AreStatedOf run judgement reasons

-- nothing is stated by the sentences on what was not judged
abbrev pub AreStatedBy : CheckedLog → List ℕ → Type 0
AreStatedBy (checked.Refused refusal) reasons = ⊤
AreStatedBy (checked.Misshapen misshapen) reasons = ⊤
AreStatedBy (checked.Differs run answer) reasons = ⊤
AreStatedBy (checked.Judged run positions finding) reasons = AreStatedOf run (judgement_of finding) reasons

-- an answer prints the line of what was checked, and sentences on it
abbrev pub ExplainsChecked : CheckedLog → Answer → Type 0
ExplainsChecked log answer = (reasons : List ℕ) × PrintsReasons (verdict_of log) reasons answer × AreStatedBy log reasons

-- the sentences are parts of which all that they state holds of the run of these bytes
pub record AreStated (module_bytes document_bytes reasons : List ℕ) : Type 0 where
  pub «module» : Module
  pub run : LoggedRun
  pub recorded : IsCandidateOf module_bytes document_bytes «module» run
  pub parts : List Part
  pub text_is : reasons ≡ parts_text parts
  pub hold : AllHold run parts

-- so it is of a run that was judged; why bytes are refused, or why a thread differs, is in sentences that aren't specified
abbrev pub HaveGrounds : List ℕ → List ℕ → Verdict → List ℕ → Type 0
HaveGrounds module_bytes document_bytes (Allowed certificate) reasons = AreStated module_bytes document_bytes reasons
HaveGrounds module_bytes document_bytes (Refused refusal) reasons = ⊤
HaveGrounds module_bytes document_bytes (Broken (Replay answer)) reasons = ⊤
HaveGrounds module_bytes document_bytes (Broken (Rule fault)) reasons = AreStated module_bytes document_bytes reasons

-- the status and the text that answer a module and a document: those of `check`, and sentences
pub record AnswersExplain (module_bytes document_bytes : List ℕ) (status : ℕ) (text : List ℕ) : Type 0 where
  pub verdict : Verdict
  pub says : Says module_bytes document_bytes verdict
  pub reasons : List ℕ
  pub status_is : status ≡ verdict_status verdict
  pub text_is : text ≡ ended (verdict_text verdict) ++ reasons
  pub grounds : HaveGrounds module_bytes document_bytes verdict reasons

-- an answer to these bytes of a document, and to all bytes that spell the module
abbrev pub ExplainsOver : Module → List ℕ → Answer → Type 0
ExplainsOver «module» document_bytes answer =
    (module_bytes : List ℕ) → IsModuleOf module_bytes «module» → AnswersExplain module_bytes document_bytes answer.status (string_bytes answer.text)

-- ---- the command `graph`

-- an answer has the status of the verdict with a picture that isn't specified; or it prints the line of a refusal
abbrev pub Shows : Verdict → Answer → Type 0
Shows (Allowed certificate) answer = answer.status ≡ 0
Shows (Refused refusal) answer = Prints 2 (verdict_text (Refused refusal)) answer
Shows (Broken breach) answer = answer.status ≡ 1

-- there is a candidate, of which there is a picture
abbrev pub HasPicture : Verdict → Type 0
HasPicture (Allowed certificate) = ⊤
HasPicture (Refused refusal) = ⊥
HasPicture (Broken breach) = ⊤

-- the status and the text that answer a module and a document: the status of `check` with a picture that isn't
-- specified, if there is a candidate; otherwise the line of the refusal
pub data AnswersGraph (module_bytes document_bytes : List ℕ) (status : ℕ) (text : List ℕ) : Type 0 where
  pictured : (verdict : Verdict) → Says module_bytes document_bytes verdict → HasPicture verdict
      → status ≡ verdict_status verdict → AnswersGraph module_bytes document_bytes status text
  told : (refusal : Refusal) → IsRefusedFor module_bytes document_bytes refusal
      → status ≡ 2 → text ≡ ended (verdict_text (Refused refusal)) → AnswersGraph module_bytes document_bytes status text

-- an answer to these bytes of a document, and to all bytes that spell the module
abbrev pub GraphsOver : Module → List ℕ → Answer → Type 0
GraphsOver «module» document_bytes answer =
    (module_bytes : List ℕ) → IsModuleOf module_bytes «module» → AnswersGraph module_bytes document_bytes answer.status (string_bytes answer.text)
