-- The answers of the command `drive`.
use Rattle.std.specs.Prelude.{◌≡◌, ◌≢◌, ℕ, List, Option, ◌++◌, codes, string_bytes}
use Rattle.wm_ast.specs.declared.module.Module.{Module}
use Rattle.wm_check.specs.declared.verdict.Refusal.{Refusal}
use Rattle.wm_check.specs.declared.verdict.Verdict.{Verdict}
use Rattle.wm_check.specs.declared.verdict.Verdict.TheVariants.{Refused}
use Rattle.wm_check.specs.Reading.{IsModuleRefusal}
use Rattle.wm_check.specs.Run.{IsModuleOf}
use Rattle.wm_check.specs.Verdicts.{Says}
use Rattle.wm_check.specs.Texts.{verdict_status, verdict_text}
use Rattle.wm_decode.specs.Bounds.{max_module_bytes}
use Rattle.wm_run.specs.declared.fault.RunFault.{RunFault}
use Rattle.wm_run.specs.declared.fault.RunFault.TheVariants.{OutOfMemory}
use Rattle.wm_run.specs.declared.plan.Plan.{Plan}
use Rattle.wm_run.specs.declared.turn.Turn.{Turn}
use Rattle.wm_run.specs.Refusal.{IsScriptFault}
use Rattle.wm_run.specs.Run.{Record}
use Rattle.wm_run.specs.Scripted.{IsScripted}
use Rattle.wm_litmus.specs.declared.answer.Answer.{Answer}
use Rattle.wm_litmus.specs.Input.{IsReadOf}
use Rattle.wm_litmus.specs.Lines.{run_fault_line_text, word_line_text}
use Rattle.wm_litmus.specs.Outcomes.{outcome_text}
use Rattle.wm_litmus.specs.Own.{IsMadeOf, IsOwnVerdict, run_text}
use Rattle.wm_litmus.specs.Prints.{ended}
use Rattle.wm_command.specs.declared.fault.WordFault.{WordFault}
use Rattle.wm_command.specs.declared.fault.WordFault.TheVariants as word
use Rattle.wm_command.specs.declared.words.Script.{Script}
use Rattle.wm_command.specs.Words.{IsScriptOf, SpellNoScript}

-- the outcome, the verdict and the document, a line each
abbrev pub driven_text : List ℕ → Verdict → List ℕ → List ℕ
driven_text outcome verdict document = ended (codes "outcome " ++ outcome) ++ (ended (verdict_text verdict) ++ ended document)

-- an answer prints these, with the status of the verdict
pub record PrintsRun (outcome : List ℕ) (verdict : Verdict) (document : List ℕ) (answer : Answer) : Type 0 where
  pub status_is : answer.status ≡ verdict_status verdict
  pub text_is : string_bytes answer.text ≡ driven_text outcome verdict document

-- the answer is the outcome of the run, its document, and the verdict on that
pub record IsDriven (module_bytes : List ℕ) (run : Record) (answer : Answer) : Type 0 where
  pub verdict : Verdict
  pub says : Says module_bytes (run_text run) verdict
  pub own : IsOwnVerdict run verdict
  pub prints : PrintsRun (outcome_text run.log) verdict (run_text run) answer

-- the same, whichever bytes spell the module
abbrev pub IsDrivenOver : Module → Record → Answer → Type 0
IsDrivenOver «module» run answer = (module_bytes : List ℕ) → IsMadeOf module_bytes «module» run → IsDriven module_bytes run answer

-- the status and the text that answer a module and a script: the scripted run, with the verdict on its document
pub data AnswersDrive (module_bytes : List ℕ) (plan : Plan) (turns : List Turn) (status : ℕ) (text : List ℕ) : Type 0 where
  no_module : (refusal : Refusal) → IsModuleRefusal module_bytes refusal
      → status ≡ 2 → text ≡ ended (verdict_text (Refused refusal)) → AnswersDrive module_bytes plan turns status text
  refused : («module» : Module) (fault : RunFault) → IsModuleOf module_bytes «module» → fault ≢ OutOfMemory → IsScriptFault «module» plan turns fault
      → status ≡ 2 → text ≡ ended (run_fault_line_text fault) → AnswersDrive module_bytes plan turns status text
  driven : («module» : Module) (run : Record) (verdict : Verdict) → IsModuleOf module_bytes «module» → IsScripted «module» plan turns run
      → Says module_bytes (run_text run) verdict → IsOwnVerdict run verdict
      → status ≡ verdict_status verdict → text ≡ driven_text (outcome_text run.log) verdict (run_text run) → AnswersDrive module_bytes plan turns status text

-- an answer to a script, whichever bytes spell the module
abbrev pub DrivesOver : Module → Script → Answer → Type 0
DrivesOver «module» script answer =
    (module_bytes : List ℕ) → IsModuleOf module_bytes «module» → AnswersDrive module_bytes script.plan script.turns answer.status (string_bytes answer.text)

-- the status and the text that answer the words of a script over the module of a file, whose bytes may be known: the
-- answer to the script that a word of turns and the words of the starts spell, or a refusal of the first word that
-- spells nothing
pub data IsScriptAnswer (Answers : List ℕ → Plan → List Turn → ℕ → List ℕ → Type 0) (known : Option (List ℕ)) (turns : List ℕ) (starts : List (List ℕ)) (status : ℕ) (text : List ℕ) : Type 0 where
  played : (script : Script) (module_bytes : List ℕ) → IsScriptOf turns starts script → IsReadOf known max_module_bytes module_bytes
      → Answers module_bytes script.plan script.turns status text → IsScriptAnswer Answers known turns starts status text
  no_script : (fault : WordFault) → fault ≢ word.OutOfMemory → SpellNoScript turns starts fault
      → status ≡ 2 → text ≡ ended (word_line_text fault) → IsScriptAnswer Answers known turns starts status text
