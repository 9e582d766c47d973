-- The answers of the commands `verify`, `stream` and `decide`.
use Rattle.std.specs.Prelude.{◌≡◌, ℕ, ◌+◌, List, ◌++◌, Option, IfSome, string_bytes, take}
use Rattle.wm_ast.specs.declared.module.Module.{Module}
use Rattle.wm_check.specs.declared.verdict.Verdict.{Verdict}
use Rattle.wm_check.specs.declared.verdict.Verdict.TheVariants.{Refused}
use Rattle.wm_check.specs.declared.verdict.Refusal.{Refusal}
use Rattle.wm_check.specs.Reading.{IsModuleRefusal}
use Rattle.wm_check.specs.Run.{IsModuleOf}
use Rattle.wm_check.specs.Verified.{Verifies}
use Rattle.wm_check.specs.Texts.{verdict_status, verdict_text}
use Rattle.wm_command.specs.declared.command.LineTask.{LineTask}
use Rattle.wm_command.specs.declared.command.LineTask.TheVariants as task
use Rattle.wm_logfile.specs.Limits.{max_document_bytes}
use Rattle.wm_stream.specs.declared.answer.LineAnswer.{LineAnswer}
use Rattle.wm_stream.specs.declared.answer.LineStatus.{LineStatus}
use Rattle.wm_stream.specs.declared.answer.LineStatus.TheVariants as line
use Rattle.wm_stream.specs.Answers.{Answered, AreAnswers, overall, status_code, text_of, worse}
use Rattle.wm_stream.specs.Lines.{cut_lines}
use Rattle.wm_litmus.specs.declared.stream.Judge.{Judge}
use Rattle.wm_litmus.specs.declared.stream.Judge.TheVariants as judge
use Rattle.wm_litmus.specs.LineWitness.{AnswersLineWitness}
use Rattle.wm_litmus.specs.Prints.{ended}

-- ---- the command `verify`

-- the status and the text that answer a module and a document, by the verdict on its completed log
pub record AnswersVerify (module_bytes document_bytes : List ℕ) (status : ℕ) (text : List ℕ) : Type 0 where
  pub verdict : Verdict
  pub verifies : Verifies module_bytes document_bytes verdict
  pub status_is : status ≡ verdict_status verdict
  pub text_is : text ≡ ended (verdict_text verdict)

-- ---- the commands `stream` and `decide`

-- the answer to a line of `decide`: over the module; or the module is refused
pub data AnswersWitnessLine (module_bytes line : List ℕ) (status : ℕ) (text : List ℕ) : Type 0 where
  over : («module» : Module) → IsModuleOf module_bytes «module» → AnswersLineWitness «module» line status text → AnswersWitnessLine module_bytes line status text
  no_module : (refusal : Refusal) → IsModuleRefusal module_bytes refusal → status ≡ 2 → text ≡ ended (verdict_text (Refused refusal)) → AnswersWitnessLine module_bytes line status text

-- the answer to a line of `stream` is the answer of `verify` to the line as a document
abbrev pub AnswersLine : LineTask → List ℕ → List ℕ → LineStatus → List ℕ → Type 0
AnswersLine task.Verify module_bytes line status text = AnswersVerify module_bytes line (status_code status) text
AnswersLine task.Witness module_bytes line status text = AnswersWitnessLine module_bytes line (status_code status) text

-- the status of a module by itself: a refused module is refused without a line too
pub data HasStatus (module_bytes : List ℕ) : LineStatus → Type 0 where
  read : («module» : Module) → IsModuleOf module_bytes «module» → HasStatus module_bytes line.Allowed
  refused : (refusal : Refusal) → IsModuleRefusal module_bytes refusal → HasStatus module_bytes line.Refused

-- the lines of the input, each cut to one more byte than a document may have
abbrev pub input_lines : List ℕ → List (List ℕ)
input_lines bytes = cut_lines (max_document_bytes + 1) bytes

-- the status and the text that answer the input: an answer to each line, in their order, and the status of all of them
-- and of the module
pub record AnswersStream (task : LineTask) (module_bytes : List ℕ) (input : Option (List ℕ)) (status : ℕ) (text : List ℕ) : Type 0 where
  pub lines : List (List ℕ)
  pub are_lines : IfSome input (λ all. lines ≡ input_lines all)
  pub answers : List Answered
  pub are_answers : AreAnswers (AnswersLine task module_bytes) lines answers
  pub own : LineStatus
  pub is_own : HasStatus module_bytes own
  pub status_is : status ≡ status_code (worse own (overall answers))
  pub text_is : text ≡ text_of answers

-- the text that answers some first lines of the input
pub record AnswersFirstLines (task : LineTask) (module_bytes : List ℕ) (input : Option (List ℕ)) (text : List ℕ) : Type 0 where
  pub lines : List (List ℕ)
  pub are_lines : IfSome input (λ all. (others : List (List ℕ)) × (input_lines all ≡ lines ++ others))
  pub count : ℕ
  pub answers : List Answered
  pub are_answers : AreAnswers (AnswersLine task module_bytes) (take count lines) answers
  pub text_is : text ≡ text_of answers

-- ---- the judge of the lines

-- the answer is the line of the verdict
pub record IsLineOf (verdict : Verdict) (answer : LineAnswer) : Type 0 where
  pub status_is : status_code answer.status ≡ verdict_status verdict
  pub text_is : string_bytes answer.text ≡ ended (verdict_text verdict)

-- the bytes spell the module, of which this is asked, or are refused with this verdict
abbrev pub IsJudgeOf : LineTask → List ℕ → Judge → Type 0
IsJudgeOf asked module_bytes (judge.Module «module») = (asked ≡ task.Verify) × IsModuleOf module_bytes «module»
IsJudgeOf asked module_bytes (judge.Search «module») = (asked ≡ task.Witness) × IsModuleOf module_bytes «module»
IsJudgeOf asked module_bytes (judge.Refused verdict) = (refusal : Refusal) × (verdict ≡ Refused refusal) × IsModuleRefusal module_bytes refusal

-- the status of a judge's module
abbrev pub status_of : Judge → LineStatus
status_of (judge.Module «module») = line.Allowed
status_of (judge.Search «module») = line.Allowed
status_of (judge.Refused verdict) = line.Refused

-- the answer of a judge to a line, whatever is asked and whichever bytes the judge was made from
abbrev pub JudgesLine : Judge → List ℕ → LineStatus → List ℕ → Type 0
JudgesLine judge line status text = (asked : LineTask) (module_bytes : List ℕ) → IsJudgeOf asked module_bytes judge → AnswersLine asked module_bytes line status text
