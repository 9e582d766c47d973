-- The answers of the command `witness`.
use Rattle.std.specs.Prelude.{◌≡◌, ◌≢◌, ℕ, List, [], ◌++◌, codes, length, string_bytes, Result, Ok, Err}
use Rattle.std.specs.Fmt.{decimal}
use Rattle.wm_ast.specs.declared.module.Module.{Module}
use Rattle.wm_check.specs.declared.verdict.Breach.TheVariants.{Replay}
use Rattle.wm_check.specs.declared.verdict.Refusal.{Refusal}
use Rattle.wm_check.specs.declared.verdict.Verdict.TheVariants.{Broken, Refused}
use Rattle.wm_check.specs.Reading.{IsModuleRefusal}
use Rattle.wm_check.specs.Run.{IsModuleOf}
use Rattle.wm_check.specs.Texts.{verdict_text}
use Rattle.wm_event.specs.declared.log.ThreadLog.{ThreadLog}
use Rattle.wm_event.specs.declared.shape_fault.ShapeFault.{ShapeFault}
use Rattle.wm_event.specs.declared.shape_fault.ShapeFault.TheVariants.{OutOfMemory}
use Rattle.wm_event.specs.declared.witness.Witness.{Witness}
use Rattle.wm_event.specs.First.{IsFirst}
use Rattle.wm_event.specs.LoggedRun.{LoggedRun, execution}
use Rattle.wm_event.specs.Rules.{IsValid}
use Rattle.wm_event.specs.Shape.{IsWellShaped, Misshapes, event_count, shape_rank}
use Rattle.wm_logfile.specs.declared.fault.DocFault.{DocFault}
use Rattle.wm_logfile.specs.Document.{document_2}
use Rattle.wm_logfile.specs.DocumentBytes.{IsDocumentOf, IsNoDocument}
use Rattle.serde_json.specs.Written.{compact_text}
use Rattle.wm_replay.specs.declared.answer.ReplayAnswer.{ReplayAnswer}
use Rattle.wm_replay.specs.declared.answer.ReplayAnswer.TheVariants.{Same}
use Rattle.wm_replay.specs.Comparison.{Replays}
use Rattle.wm_replay.specs.Replay.{AreRuns}
use Rattle.wm_valid.specs.Valid.{IsInit}
use Rattle.wm_witness.specs.Search.{IsLeftOpen}
use Rattle.wm_witness.specs.Unknown.{IsUnknown}
use Rattle.wm_writers.specs.Forced.{IsNeverValid, with_witness}
use Rattle.wm_litmus.specs.declared.answer.Answer.{Answer}
use Rattle.wm_litmus.specs.Lines.{document_line_text, shape_line_text}
use Rattle.wm_litmus.specs.Prints.{ended}
use Rattle.wm_litmus.specs.Rules.{zeros}

-- ---- the search

abbrev pub no_witness_text : ℕ → ℕ → List ℕ
no_witness_text threads events = codes "no witness threads=" ++ decimal threads ++ codes " events=" ++ decimal events

abbrev pub gave_up_text : ℕ → List ℕ
gave_up_text nodes = codes "gave up nodes=" ++ decimal nodes

-- the status and the text that answer a log over an initial memory: a document of the log with a witness that makes it
-- valid; or that no witness does; or that the search took this number of nodes, and something was left of it
pub data AnswersSearch (run : LoggedRun) (nodes status : ℕ) (text : List ℕ) : Type 0 where
  found : (witness : Witness) → IsWellShaped (with_witness run witness) → IsValid (execution (with_witness run witness))
      → status ≡ 0 → text ≡ ended (compact_text (document_2 run.log witness)) → AnswersSearch run nodes status text
  none : IsNeverValid run → status ≡ 1 → text ≡ ended (no_witness_text (length run.log) (event_count run.log)) → AnswersSearch run nodes status text
  gave_up : IsLeftOpen run [] nodes → status ≡ 2 → text ≡ ended (gave_up_text nodes) → AnswersSearch run nodes status text

-- a log over an initial memory, with a witness from which a search starts
pub record IsStart (log : List ThreadLog) (initial : List ℕ) (run : LoggedRun) : Type 0 where
  pub log_is : run.log ≡ log
  pub initial_is : run.initial ≡ initial
  pub unknown : IsUnknown log run.witness

-- it is a candidate, or has this fault of its shape
abbrev pub IsStarted : List ThreadLog → List ℕ → Result LoggedRun ShapeFault → Type 0
IsStarted log initial (Ok run) = IsStart log initial run
IsStarted log initial (Err fault) = (run : LoggedRun) × IsStart log initial run × (fault ≢ OutOfMemory → IsFirst shape_rank (Misshapes run) fault)

-- ---- for a module and a document

-- the status and the text that answer a log over a module: that some thread isn't its run; otherwise those of the search
pub data AnswersCompared («module» : Module) (run : LoggedRun) (nodes status : ℕ) (text : List ℕ) : Type 0 where
  searched : AreRuns «module» run.log → AnswersSearch run nodes status text → AnswersCompared «module» run nodes status text
  broken : (answer : ReplayAnswer) → answer ≢ Same → Replays «module» run.log answer
      → status ≡ 1 → text ≡ ended (verdict_text (Broken (Replay answer))) → AnswersCompared «module» run nodes status text

abbrev pub AnswersWitnessOver : Module → LoggedRun → ℕ → Answer → Type 0
AnswersWitnessOver «module» run nodes answer = AnswersCompared «module» run nodes answer.status (string_bytes answer.text)

-- the status and the text that answer a module and a document
pub data AnswersWitness (nodes : ℕ) (module_bytes document_bytes : List ℕ) (status : ℕ) (text : List ℕ) : Type 0 where
  compared : («module» : Module) (log : List ThreadLog) (own : Witness) (run : LoggedRun) → IsModuleOf module_bytes «module» → IsDocumentOf document_bytes log own
      → IsInit «module» run.initial → IsStart log run.initial run → AnswersCompared «module» run nodes status text
      → AnswersWitness nodes module_bytes document_bytes status text
  misshapen : («module» : Module) (log : List ThreadLog) (own : Witness) (run : LoggedRun) (fault : ShapeFault) → IsModuleOf module_bytes «module»
      → IsDocumentOf document_bytes log own → IsInit «module» run.initial → IsStart log run.initial run → IsFirst shape_rank (Misshapes run) fault
      → status ≡ 2 → text ≡ ended (shape_line_text fault) → AnswersWitness nodes module_bytes document_bytes status text
  no_module : (refusal : Refusal) → IsModuleRefusal module_bytes refusal
      → status ≡ 2 → text ≡ ended (verdict_text (Refused refusal)) → AnswersWitness nodes module_bytes document_bytes status text
  no_document : («module» : Module) (fault : DocFault) → IsModuleOf module_bytes «module» → IsNoDocument document_bytes fault
      → status ≡ 2 → text ≡ ended (document_line_text fault) → AnswersWitness nodes module_bytes document_bytes status text

-- ---- for a document alone

-- the status and the text that answer a document, over 16 pages of zeros
pub data AnswersEventWitness (nodes : ℕ) (bytes : List ℕ) (status : ℕ) (text : List ℕ) : Type 0 where
  searched : (log : List ThreadLog) (own : Witness) (run : LoggedRun) → IsDocumentOf bytes log own → IsStart log (zeros 16) run
      → AnswersSearch run nodes status text → AnswersEventWitness nodes bytes status text
  misshapen : (log : List ThreadLog) (own : Witness) (run : LoggedRun) (fault : ShapeFault) → IsDocumentOf bytes log own → IsStart log (zeros 16) run
      → IsFirst shape_rank (Misshapes run) fault → status ≡ 2 → text ≡ ended (shape_line_text fault) → AnswersEventWitness nodes bytes status text
  no_document : (fault : DocFault) → IsNoDocument bytes fault
      → status ≡ 2 → text ≡ ended (document_line_text fault) → AnswersEventWitness nodes bytes status text
