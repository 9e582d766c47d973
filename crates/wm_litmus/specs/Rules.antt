-- The answers of the command `rules`.
use Rattle.std.specs.Prelude.{◌≡◌, ℕ, ◌*◌, List, replicate}
use Rattle.wm_event.specs.declared.log.ThreadLog.{ThreadLog}
use Rattle.wm_event.specs.declared.rule.Judgement.{Judgement}
use Rattle.wm_event.specs.declared.shape_fault.ShapeFault.{ShapeFault}
use Rattle.wm_event.specs.declared.witness.Witness.{Witness}
use Rattle.wm_event.specs.Faults.{Judges}
use Rattle.wm_event.specs.First.{IsFirst}
use Rattle.wm_event.specs.LoggedRun.{LoggedRun, execution}
use Rattle.wm_event.specs.Shape.{IsWellShaped, Misshapes, shape_rank}
use Rattle.wm_logfile.specs.declared.fault.DocFault.{DocFault}
use Rattle.wm_logfile.specs.DocumentBytes.{IsDocumentOf, IsNoDocument}
use Rattle.wm_event.specs.Texts.{judgement_text}
use Rattle.wm_litmus.specs.Lines.{document_line_text, judgement_status, shape_line_text}
use Rattle.wm_rules.specs.Finding.{judgement_of}
use Rattle.wm_check.specs.declared.judged.JudgedDocument.{JudgedDocument}
use Rattle.wm_check.specs.declared.judged.JudgedDocument.TheVariants as document
use Rattle.wm_litmus.specs.Prints.{ended}

-- this number of pages of zeros, of 65,536 bytes each
unfoldable pub zeros : ℕ → List ℕ
zeros pages = replicate (pages * 65536) 0

abbrev pub run_over : ℕ → List ThreadLog → Witness → LoggedRun
run_over pages log witness = record { log = log; witness = witness; initial = zeros pages }

-- the status and the text that answer a run
pub data AnswersRun (run : LoggedRun) (status : ℕ) (text : List ℕ) : Type 0 where
  judged : (judgement : Judgement) → IsWellShaped run → Judges (execution run) judgement
      → status ≡ judgement_status judgement → text ≡ ended (judgement_text judgement) → AnswersRun run status text
  misshapen : (fault : ShapeFault) → IsFirst shape_rank (Misshapes run) fault
      → status ≡ 2 → text ≡ ended (shape_line_text fault) → AnswersRun run status text

-- the status and the text that answer a document
pub data AnswersRules (bytes : List ℕ) (status : ℕ) (text : List ℕ) : Type 0 where
  read : (log : List ThreadLog) (witness : Witness) → IsDocumentOf bytes log witness
      → AnswersRun (run_over 16 log witness) status text → AnswersRules bytes status text
  refused : (fault : DocFault) → IsNoDocument bytes fault
      → status ≡ 2 → text ≡ ended (document_line_text fault) → AnswersRules bytes status text

-- the status and the line of what a judgement of a document found
abbrev pub judged_status : JudgedDocument → ℕ
judged_status (document.Refused fault) = 2
judged_status (document.Misshapen m) = 2
judged_status (document.Judged run finding) = judgement_status (judgement_of finding)

abbrev pub judged_text : JudgedDocument → List ℕ
judged_text (document.Refused fault) = document_line_text fault
judged_text (document.Misshapen m) = shape_line_text m.fault
judged_text (document.Judged run finding) = judgement_text (judgement_of finding)
