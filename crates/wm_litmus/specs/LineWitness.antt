-- The answers to the lines of `decide`.
use Rattle.std.specs.Prelude.{◌≡◌, ℕ, List, string_bytes}
use Rattle.wm_ast.specs.declared.module.Module.{Module}
use Rattle.wm_check.specs.declared.verdict.Breach.TheVariants.{Replay}
use Rattle.wm_check.specs.declared.verdict.Verdict.TheVariants.{Broken}
use Rattle.wm_check.specs.Texts.{verdict_text}
use Rattle.wm_event.specs.declared.log.ThreadLog.{ThreadLog}
use Rattle.wm_event.specs.declared.shape_fault.ShapeFault.{ShapeFault}
use Rattle.wm_event.specs.declared.witness.Witness.{Witness}
use Rattle.wm_event.specs.First.{IsFirst}
use Rattle.wm_event.specs.LoggedRun.{LoggedRun}
use Rattle.wm_event.specs.Shape.{Misshapes, shape_rank}
use Rattle.wm_logfile.specs.declared.fault.DocFault.{DocFault}
use Rattle.wm_logfile.specs.DocumentBytes.{IsDocumentOf, IsNoDocument}
use Rattle.wm_replay.specs.declared.answer.ReplayAnswer.{ReplayAnswer}
use Rattle.wm_replay.specs.Complete.{IsCompletion, IsWithoutRun}
use Rattle.wm_stream.specs.declared.answer.LineAnswer.{LineAnswer}
use Rattle.wm_stream.specs.Answers.{status_code}
use Rattle.wm_valid.specs.Valid.{IsInit}
use Rattle.wm_litmus.specs.Lines.{document_line_text, shape_line_text}
use Rattle.wm_litmus.specs.Prints.{ended}
use Rattle.wm_litmus.specs.Witness.{AnswersSearch, IsStart}

-- how many nodes each search takes at the most
abbrev pub line_nodes : ℕ
line_nodes = 100000

-- the status and the text that answer a line: those of a search for a witness of its completed log; that some thread has no run
-- that makes its events; or a fault
pub data AnswersLineWitness (m : Module) (line : List ℕ) (status : ℕ) (text : List ℕ) : Type 0 where
  searched : (log completed : List ThreadLog) (own : Witness) (run : LoggedRun) → IsDocumentOf line log own → IsCompletion m log completed → IsInit m run.initial
      → IsStart completed run.initial run → AnswersSearch run line_nodes status text → AnswersLineWitness m line status text
  without_run : (log : List ThreadLog) (own : Witness) (answer : ReplayAnswer) → IsDocumentOf line log own → IsWithoutRun m log answer
      → status ≡ 1 → text ≡ ended (verdict_text (Broken (Replay answer))) → AnswersLineWitness m line status text
  misshapen : (log completed : List ThreadLog) (own : Witness) (run : LoggedRun) (fault : ShapeFault) → IsDocumentOf line log own → IsCompletion m log completed → IsInit m run.initial
      → IsStart completed run.initial run → IsFirst shape_rank (Misshapes run) fault → status ≡ 2 → text ≡ ended (shape_line_text fault) → AnswersLineWitness m line status text
  no_document : (fault : DocFault) → IsNoDocument line fault → status ≡ 2 → text ≡ ended (document_line_text fault) → AnswersLineWitness m line status text

abbrev pub SaysWitness : Module → List ℕ → LineAnswer → Type 0
SaysWitness m line answer = AnswersLineWitness m line (status_code answer.status) (string_bytes answer.text)
