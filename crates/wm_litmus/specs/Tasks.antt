-- The answers to the tasks over documents.
use Rattle.std.specs.Prelude.{◌≡◌, ℕ, List}
use Rattle.wm_check.specs.declared.verdict.Breach.{Breach}
use Rattle.wm_check.specs.declared.verdict.Breach.TheVariants.{Replay}
use Rattle.wm_check.specs.declared.verdict.Certificate.{Certificate}
use Rattle.wm_check.specs.declared.verdict.Refusal.{Refusal}
use Rattle.wm_check.specs.declared.verdict.Verdict.TheVariants.{Allowed, Refused}
use Rattle.wm_check.specs.declared.verdict.Verdict.TheVariants as verdict
use Rattle.wm_check.specs.Completed.{HasNoRun, IsCompletedTo}
use Rattle.wm_check.specs.Verdicts.{IsAllowed, IsBrokenBy, IsRefusedFor}
use Rattle.wm_check.specs.Texts.{verdict_text}
use Rattle.wm_logfile.specs.declared.fault.DocFault.{DocFault}
use Rattle.wm_logfile.specs.declared.fault.DocFault.TheVariants.{Misplaced}
use Rattle.wm_logfile.specs.DocumentBytes.{IsNoDocument}
use Rattle.wm_logfile.specs.Migration.{IsMigrated, IsMisplaced}
use Rattle.wm_replay.specs.declared.answer.ReplayAnswer.{ReplayAnswer}
use Rattle.wm_command.specs.declared.command.DocumentTask.{DocumentTask}
use Rattle.wm_command.specs.declared.command.DocumentTask.TheVariants as document
use Rattle.wm_command.specs.declared.command.RunTask.{RunTask}
use Rattle.wm_command.specs.declared.command.RunTask.TheVariants as run
use Rattle.wm_litmus.specs.EventExplanation.{AnswersEventExplain, AnswersEventGraph}
use Rattle.wm_litmus.specs.Explanation.{AnswersExplain, AnswersGraph}
use Rattle.wm_litmus.specs.Lines.{document_line_text}
use Rattle.wm_litmus.specs.Prints.{ended}
use Rattle.wm_litmus.specs.Races.{AnswersEventRaces, AnswersRaces}
use Rattle.wm_litmus.specs.Rules.{AnswersRules}
use Rattle.wm_litmus.specs.Stream.{AnswersVerify}

-- ---- the command `check`

-- the status and the text that answer a module and a document, by the verdict on them
pub data AnswersCheck (module_bytes document_bytes : List ℕ) (status : ℕ) (text : List ℕ) : Type 0 where
  allowed : (certificate : Certificate) → IsAllowed module_bytes document_bytes certificate
      → status ≡ 0 → text ≡ ended (verdict_text (Allowed certificate)) → AnswersCheck module_bytes document_bytes status text
  refused_for : (refusal : Refusal) → IsRefusedFor module_bytes document_bytes refusal
      → status ≡ 2 → text ≡ ended (verdict_text (Refused refusal)) → AnswersCheck module_bytes document_bytes status text
  broken_by : (breach : Breach) → IsBrokenBy module_bytes document_bytes breach
      → status ≡ 1 → text ≡ ended (verdict_text (verdict.Broken breach)) → AnswersCheck module_bytes document_bytes status text

-- ---- the command `migrate`

-- the status and the text that answer a document: its text in version 2
pub data AnswersMigrate (bytes : List ℕ) (status : ℕ) (text : List ℕ) : Type 0 where
  migrated : (line : List ℕ) → IsMigrated bytes line
      → status ≡ 0 → text ≡ ended line → AnswersMigrate bytes status text
  misplaced : IsMisplaced bytes
      → status ≡ 2 → text ≡ ended (document_line_text Misplaced) → AnswersMigrate bytes status text
  refused : (fault : DocFault) → IsNoDocument bytes fault
      → status ≡ 2 → text ≡ ended (document_line_text fault) → AnswersMigrate bytes status text

-- ---- the command `complete`

-- the status and the text that answer a module and a document: the document's text in version 2 with its steps and ends
pub data AnswersComplete (module_bytes document_bytes : List ℕ) (status : ℕ) (text : List ℕ) : Type 0 where
  completed : (line : List ℕ) → IsCompletedTo module_bytes document_bytes line
      → status ≡ 0 → text ≡ ended line → AnswersComplete module_bytes document_bytes status text
  refused_for : (refusal : Refusal) → IsRefusedFor module_bytes document_bytes refusal
      → status ≡ 2 → text ≡ ended (verdict_text (Refused refusal)) → AnswersComplete module_bytes document_bytes status text
  without_run : (answer : ReplayAnswer) → HasNoRun module_bytes document_bytes answer
      → status ≡ 1 → text ≡ ended (verdict_text (verdict.Broken (Replay answer))) → AnswersComplete module_bytes document_bytes status text

-- ---- each task

-- the status and the text that answer a task over a module and a document
abbrev pub AnswersRunTask : RunTask → List ℕ → List ℕ → ℕ → List ℕ → Type 0
AnswersRunTask run.Check = AnswersCheck
AnswersRunTask run.Complete = AnswersComplete
AnswersRunTask run.Verify = AnswersVerify
AnswersRunTask run.Races = AnswersRaces
AnswersRunTask run.Explain = AnswersExplain
AnswersRunTask run.Graph = AnswersGraph

-- and those that answer a task over a document alone
abbrev pub AnswersDocumentTask : DocumentTask → List ℕ → ℕ → List ℕ → Type 0
AnswersDocumentTask document.Rules = AnswersRules
AnswersDocumentTask document.Migrate = AnswersMigrate
AnswersDocumentTask document.Races = AnswersEventRaces
AnswersDocumentTask document.Explain = AnswersEventExplain
AnswersDocumentTask document.Graph = AnswersEventGraph
