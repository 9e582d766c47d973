-- The answers of the program: what it prints, and the exit status.
use Rattle.std.specs.Prelude.{◌≡◌, ◌<◌, ℕ, List, Option, None, Some, drop, map}
use Rattle.std.specs.Borrow.{Bor}
use Rattle.std.specs.Io.KnownBytes.{Appends}
use Rattle.wm_decode.specs.Bounds.{max_module_bytes}
use Rattle.clap.specs.Words.{Text}
use Rattle.wm_command.specs.declared.command.Command.TheVariants.{OfRun, OfDocument, Witness, Stream, Drive, Trace, Run, Explore, Witnesses, Help, Version}
use Rattle.wm_command.specs.declared.command.DocumentTask.{DocumentTask}
use Rattle.wm_command.specs.declared.command.LineTask.{LineTask}
use Rattle.wm_command.specs.declared.command.RunTask.{RunTask}
use Rattle.wm_command.specs.declared.command.WitnessWords.{WitnessWords}
use Rattle.wm_command.specs.declared.fault.WordFault.TheVariants.{Nodes}
use Rattle.wm_litmus.specs.declared.witness_task.WitnessTask.TheVariants.{OfRun as OfRunTask, OfDocument as OfDocumentTask}
use Rattle.wm_command.specs.Commands.{IsCommand, IsNoCommand}
use Rattle.wm_litmus.specs.Drive.{AnswersDrive, IsScriptAnswer}
use Rattle.wm_litmus.specs.Help.{help_text, version_text}
use Rattle.wm_litmus.specs.Rounds.{IsRoundsAnswer}
use Rattle.wm_litmus.specs.Explore.{IsExplorationAnswer}
use Rattle.wm_litmus.specs.declared.explore.Listing.TheVariants.{Outcomes, Documents}
use Rattle.wm_litmus.specs.Tasks.{AnswersDocumentTask, AnswersRunTask}
use Rattle.wm_litmus.specs.Trace.{AnswersTrace}
use Rattle.wm_litmus.specs.Input.{IsDocumentRead, IsReadOf}
use Rattle.wm_stream.specs.Output.{AppendsFront}
use Rattle.wm_litmus.specs.Prints.{ended}
use Rattle.wm_litmus.specs.Stream.{AnswersFirstLines, AnswersStream}
use Rattle.wm_litmus.specs.Lines.{word_line_text, words_line_text}
use Rattle.wm_litmus.specs.Witness.{AnswersEventWitness, AnswersWitness}
use Rattle.wm_litmus.specs.WitnessTask.{spelled}

abbrev pub words_of : List (Bor Text) → List Text
words_of words = map (λ word. word.now) words

-- the program's input: the words, and the contents of the files and of the input, if they are known
pub record Given : Type 0 where
  pub words : List Text
  pub files : List ℕ → Option (List ℕ)
  pub input : Option (List ℕ)

abbrev pub given : List Text → (List ℕ → Option (List ℕ)) → Option (List ℕ) → Given
given words files input = record { words = words; files = files; input = input }

-- the status and the text that answer a task over a module and a document, by what was read of both
pub record IsRunAnswer (task : RunTask) (files : List ℕ → Option (List ℕ)) (input : Option (List ℕ)) (file document : Text) (status : ℕ) (text : List ℕ) : Type 0 where
  pub module_bytes : List ℕ
  pub module_read : IsReadOf (files file) max_module_bytes module_bytes
  pub document_bytes : List ℕ
  pub document_read : IsDocumentRead files input document document_bytes
  pub answers : AnswersRunTask task module_bytes document_bytes status text

-- and those that answer a task over a document alone
pub record IsDocumentAnswer (task : DocumentTask) (files : List ℕ → Option (List ℕ)) (input : Option (List ℕ)) (document : Text) (status : ℕ) (text : List ℕ) : Type 0 where
  pub bytes : List ℕ
  pub read : IsDocumentRead files input document bytes
  pub answers : AnswersDocumentTask task bytes status text

-- and those that answer the words of a search for a witness: by what was read of the files that they name; or their number
-- of nodes is none
pub data IsWitnessAnswer (words : WitnessWords) (files : List ℕ → Option (List ℕ)) (input : Option (List ℕ)) (status : ℕ) (text : List ℕ) : Type 0 where
  of_run : (file document : Bor Text) (nodes : ℕ) (module_bytes document_bytes : List ℕ) → spelled words ≡ Some (OfRunTask file document nodes)
      → IsReadOf (files file.now) max_module_bytes module_bytes → IsDocumentRead files input document.now document_bytes
      → AnswersWitness nodes module_bytes document_bytes status text → IsWitnessAnswer words files input status text
  of_document : (document : Bor Text) (nodes : ℕ) (bytes : List ℕ) → spelled words ≡ Some (OfDocumentTask document nodes)
      → IsDocumentRead files input document.now bytes → AnswersEventWitness nodes bytes status text → IsWitnessAnswer words files input status text
  no_nodes : spelled words ≡ None → status ≡ 2 → text ≡ ended (word_line_text Nodes) → IsWitnessAnswer words files input status text

-- the status and the text that answer this input
pub data IsAnswer (given : Given) (status : ℕ) (text : List ℕ) : Type 0 where
  no_command : IsNoCommand given.words → status ≡ 2 → text ≡ ended words_line_text → IsAnswer given status text
  run_task_of : (task : RunTask) (file document : Bor Text) → IsCommand given.words (OfRun task file document)
      → IsRunAnswer task given.files given.input file.now document.now status text → IsAnswer given status text
  document_task_of : (task : DocumentTask) (document : Bor Text) → IsCommand given.words (OfDocument task document)
      → IsDocumentAnswer task given.files given.input document.now status text → IsAnswer given status text
  witness_of : (words : WitnessWords) → IsCommand given.words (Witness words)
      → IsWitnessAnswer words given.files given.input status text → IsAnswer given status text
  stream_of : (task : LineTask) (file : Bor Text) (module_bytes : List ℕ) → IsCommand given.words (Stream task file)
      → IsReadOf (given.files file.now) max_module_bytes module_bytes
      → AnswersStream task module_bytes given.input status text → IsAnswer given status text
  drive_of : (file turns : Bor Text) → IsCommand given.words (Drive file turns)
      → IsScriptAnswer AnswersDrive (given.files file.now) turns.now (drop 3 given.words) status text → IsAnswer given status text
  trace_of : (file turns : Bor Text) → IsCommand given.words (Trace file turns)
      → IsScriptAnswer AnswersTrace (given.files file.now) turns.now (drop 3 given.words) status text → IsAnswer given status text
  run_of : (file rounds : Bor Text) → IsCommand given.words (Run file rounds)
      → IsRoundsAnswer (given.files file.now) rounds.now (drop 3 given.words) status text → IsAnswer given status text
  explore_of : (file events : Bor Text) → IsCommand given.words (Explore file events)
      → IsExplorationAnswer Outcomes (given.files file.now) events.now (drop 3 given.words) status text → IsAnswer given status text
  witnesses_of : (file events : Bor Text) → IsCommand given.words (Witnesses file events)
      → IsExplorationAnswer Documents (given.files file.now) events.now (drop 3 given.words) status text → IsAnswer given status text
  help_of : IsCommand given.words Help → status ≡ 0 → text ≡ help_text → IsAnswer given status text
  version_of : IsCommand given.words Version → status ≡ 0 → text ≡ version_text → IsAnswer given status text

-- the writer gains what an answer of this status prints
pub record WritesAnswer (given : Given) (old new : Option (List ℕ)) (status : ℕ) : Type 0 where
  pub text : List ℕ
  pub answers : IsAnswer given status text
  pub gains : Appends old new text

-- the writer gains nothing, a prefix of what an answer prints, or a prefix of the answers to the first lines of the
-- input
pub data WritesFront (given : Given) (old new : Option (List ℕ)) : Type 0 where
  nothing : new ≡ old → WritesFront given old new
  front : (status : ℕ) (text : List ℕ) → IsAnswer given status text
      → AppendsFront old new text → WritesFront given old new
  first_lines : (task : LineTask) (file : Bor Text) (module_bytes text : List ℕ) → IsCommand given.words (Stream task file)
      → IsReadOf (given.files file.now) max_module_bytes module_bytes
      → AnswersFirstLines task module_bytes given.input text
      → AppendsFront old new text → WritesFront given old new

-- below status 3 the writer gains the answer
abbrev pub Serves : List (Bor Text) → (List ℕ → Option (List ℕ)) → Option (List ℕ) → Option (List ℕ) → Option (List ℕ) → ℕ → Type 0
Serves words files input old new status = status < 3 → WritesAnswer (given (words_of words) files input) old new status

-- at status 3 it gains at most a prefix of the answer
abbrev pub StopsAt3 : List (Bor Text) → (List ℕ → Option (List ℕ)) → Option (List ℕ) → Option (List ℕ) → Option (List ℕ) → ℕ → Type 0
StopsAt3 words files input old new status = status ≡ 3 → WritesFront (given (words_of words) files input) old new
