-- What it means for a document to be completed.
use Rattle.std.specs.Prelude.{◌≡◌, ℕ, List, string_bytes}
use Rattle.serde_json.specs.Written.{compact_text}
use Rattle.wm_ast.specs.declared.module.Module.{Module}
use Rattle.wm_event.specs.declared.log.ThreadLog.{ThreadLog}
use Rattle.wm_event.specs.declared.witness.Witness.{Witness}
use Rattle.wm_event.specs.LoggedRun.{LoggedRun}
use Rattle.wm_event.specs.Shape.{IsWellShaped}
use Rattle.wm_logfile.specs.Document.{document_2}
use Rattle.wm_logfile.specs.DocumentBytes.{IsDocumentOf}
use Rattle.wm_replay.specs.declared.answer.ReplayAnswer.{ReplayAnswer}
use Rattle.wm_replay.specs.Complete.{IsCompletion, IsWithoutRun}
use Rattle.wm_valid.specs.Valid.{IsInit}
use Rattle.wm_check.specs.declared.completed.CompletedDocument.{CompletedDocument}
use Rattle.wm_check.specs.declared.completed.CompletedDocument.TheVariants.{Text, Refused, NoRun}
use Rattle.wm_check.specs.Run.{IsCandidateOf, IsModuleOf}
use Rattle.wm_check.specs.Verdicts.{IsRefusedFor}

-- the bytes are a candidate, and the text is in version 2, for its log with the steps and the ends of its runs, and its
-- own witness
pub record IsCompletedTo (module_bytes document_bytes text : List ℕ) : Type 0 where
  pub «module» : Module
  pub run : LoggedRun
  pub candidate : IsCandidateOf module_bytes document_bytes «module» run
  pub completed : List ThreadLog
  pub completion : IsCompletion «module» run.log completed
  pub written : text ≡ compact_text (document_2 completed run.witness)

-- the bytes are a candidate, and this is the first thread whose events no number of steps makes
pub record HasNoRun (module_bytes document_bytes : List ℕ) (answer : ReplayAnswer) : Type 0 where
  pub «module» : Module
  pub run : LoggedRun
  pub candidate : IsCandidateOf module_bytes document_bytes «module» run
  pub first : IsWithoutRun «module» run.log answer

abbrev pub CompletesDocument : List ℕ → List ℕ → CompletedDocument → Type 0
CompletesDocument module_bytes document_bytes (Text text) = IsCompletedTo module_bytes document_bytes (string_bytes text)
CompletesDocument module_bytes document_bytes (Refused refusal) = IsRefusedFor module_bytes document_bytes refusal
CompletesDocument module_bytes document_bytes (NoRun answer) = HasNoRun module_bytes document_bytes answer

-- what the answer states for all bytes that spell the module, and the log with the witness
abbrev pub CompletesOver : Module → List ThreadLog → Witness → CompletedDocument → Type 0
CompletesOver «module» log witness answer =
    (module_bytes document_bytes : List ℕ) → IsModuleOf module_bytes «module» → IsDocumentOf document_bytes log witness
    → CompletesDocument module_bytes document_bytes answer

-- the same for these bytes of a document
abbrev pub CompletesDocumentOver : Module → List ℕ → CompletedDocument → Type 0
CompletesDocumentOver «module» document_bytes answer =
    (module_bytes : List ℕ) → IsModuleOf module_bytes «module» → CompletesDocument module_bytes document_bytes answer

-- the same for a candidate over the module's initial memory
abbrev pub CompletesLog : Module → LoggedRun → CompletedDocument → Type 0
CompletesLog «module» run answer =
    (module_bytes document_bytes : List ℕ) → IsModuleOf module_bytes «module» → IsDocumentOf document_bytes run.log run.witness → IsInit «module» run.initial
    → IsWellShaped run → CompletesDocument module_bytes document_bytes answer
