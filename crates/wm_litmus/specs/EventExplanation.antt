-- The answers of the commands `explain` and `graph` to a document alone.
use Rattle.std.specs.Prelude.{◌≡◌, ℕ, List, ◌++◌, ⊤, string_bytes}
use Rattle.wm_event.specs.declared.log.ThreadLog.{ThreadLog}
use Rattle.wm_event.specs.declared.rule.Judgement.{Judgement}
use Rattle.wm_event.specs.declared.witness.Witness.{Witness}
use Rattle.wm_event.specs.Faults.{Judges}
use Rattle.wm_event.specs.LoggedRun.{execution}
use Rattle.wm_event.specs.Shape.{IsWellShaped}
use Rattle.wm_logfile.specs.DocumentBytes.{IsDocumentOf}
use Rattle.wm_check.specs.declared.judged.JudgedDocument.{JudgedDocument}
use Rattle.wm_check.specs.declared.judged.JudgedDocument.TheVariants as document
use Rattle.wm_explain.specs.declared.part.Part.{Part}
use Rattle.wm_explain.specs.Parts.{AllHold, parts_text}
use Rattle.wm_rules.specs.Finding.{judgement_of}
use Rattle.wm_litmus.specs.declared.answer.Answer.{Answer}
use Rattle.wm_litmus.specs.Explanation.{AreStatedOf}
use Rattle.wm_litmus.specs.Lines.{judgement_status}
use Rattle.wm_litmus.specs.Rules.{AnswersRules, run_over}

-- an answer with these sentences after its text
pub record GainsReasons (old : Answer) (reasons : List ℕ) (new : Answer) : Type 0 where
  pub status_is : new.status ≡ old.status
  pub text_is : string_bytes new.text ≡ string_bytes old.text ++ reasons

-- ---- the command `explain`

-- nothing is stated by the sentences on a document that was not judged
abbrev pub AreStatedBy : JudgedDocument → List ℕ → Type 0
AreStatedBy (document.Refused fault) reasons = ⊤
AreStatedBy (document.Misshapen misshapen) reasons = ⊤
AreStatedBy (document.Judged run finding) reasons = AreStatedOf run (judgement_of finding) reasons

-- the sentences are parts of which all that they state holds of the run of the document over 16 pages of zeros; why a document is
-- refused is in sentences that aren't specified
pub data HaveEventGrounds (bytes : List ℕ) (status : ℕ) (reasons : List ℕ) : Type 0 where
  refused : status ≡ 2 → HaveEventGrounds bytes status reasons
  stated : (log : List ThreadLog) (witness : Witness) → IsDocumentOf bytes log witness → IsWellShaped (run_over 16 log witness)
      → (parts : List Part) → reasons ≡ parts_text parts → AllHold (run_over 16 log witness) parts → HaveEventGrounds bytes status reasons

-- the status and the text that answer a document: those of `rules`, and sentences
pub record AnswersEventExplain (bytes : List ℕ) (status : ℕ) (text : List ℕ) : Type 0 where
  pub line : List ℕ
  pub reasons : List ℕ
  pub rules : AnswersRules bytes status line
  pub text_is : text ≡ line ++ reasons
  pub grounds : HaveEventGrounds bytes status reasons

-- ---- the command `graph`

-- the status and the text that answer a document: the status of the judgement of its run over 16 pages of zeros, with a
-- picture that isn't specified; for a document that is refused, the answer of `rules`
pub data AnswersEventGraph (bytes : List ℕ) (status : ℕ) (text : List ℕ) : Type 0 where
  pictured : (log : List ThreadLog) (witness : Witness) (judgement : Judgement) → IsDocumentOf bytes log witness → IsWellShaped (run_over 16 log witness)
      → Judges (execution (run_over 16 log witness)) judgement → status ≡ judgement_status judgement → AnswersEventGraph bytes status text
  told : status ≡ 2 → AnswersRules bytes status text → AnswersEventGraph bytes status text
