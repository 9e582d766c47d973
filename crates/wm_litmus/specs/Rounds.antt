-- The answers of the command `run`.
use Rattle.std.specs.Prelude.{◌≡◌, ◌≢◌, ◌<◌, ◌^◌, ℕ, List, ◌++◌, IfOk, MatchOption, Option, Result, String, true, codes, length, map, string_bytes}
use denote.Ref.{Bor}
use Rattle.std.specs.BTreeMap.{BTreeMap}
use Rattle.std.specs.declared.alloc.AllocError.{AllocError}
use Rattle.std.specs.declared.alloc.Global.{Global}
use Rattle.std.specs.Fmt.{decimal}
use Rattle.std.specs.Fn.{FnReturnsAt, Shared}
use Rattle.std.specs.List.{All}
use Rattle.wm_ast.specs.declared.module.Module.{Module}
use Rattle.wm_check.specs.declared.verdict.Certificate.{Certificate}
use Rattle.wm_check.specs.declared.verdict.Refusal.{Refusal}
use Rattle.wm_check.specs.declared.verdict.Refusal.TheVariants as refusal
use Rattle.wm_check.specs.declared.verdict.Verdict.TheVariants.{Allowed, Refused}
use Rattle.wm_check.specs.Reading.{IsModuleRefusal, SaysOver}
use Rattle.wm_check.specs.Run.{IsModuleOf}
use Rattle.wm_check.specs.Texts.{verdict_text}
use Rattle.wm_decode.specs.Bounds.{max_module_bytes}
use Rattle.wm_logfile.specs.Limits.{max_document_bytes}
use Rattle.wm_logfile.specs.declared.fault.DocFault.TheVariants.{TooLarge}
use Rattle.wm_run.specs.declared.fault.RunFault.{RunFault}
use Rattle.wm_run.specs.declared.fault.RunFault.TheVariants.{OutOfMemory}
use Rattle.wm_run.specs.declared.plan.Plan.{Plan}
use Rattle.wm_run.specs.RoundPlans.{IsRound, IsRoundFault}
use Rattle.wm_run.specs.Run.{Record}
use Rattle.wm_litmus.specs.declared.answer.Answer.{Answer}
use Rattle.wm_litmus.specs.Counts.{CountsOneMore, Counts}
use Rattle.wm_litmus.specs.Own.{run_text}
use Rattle.wm_litmus.specs.Input.{IsReadOf}
use Rattle.wm_litmus.specs.Lines.{run_fault_line_text, word_line_text}
use Rattle.wm_litmus.specs.Outcomes.{outcome_text}
use Rattle.wm_litmus.specs.Prints.{ended}
use Rattle.wm_litmus.specs.Table.{IsTableText}
use Rattle.wm_command.specs.declared.fault.WordFault.{WordFault}
use Rattle.wm_command.specs.declared.fault.WordFault.TheVariants as word
use Rattle.wm_command.specs.declared.words.Rounds.{Rounds}
use Rattle.wm_command.specs.Words.{IsRoundsOf, SpellNoRounds}

-- a round of the plan whose document's verdict is allowed, whichever bytes spell the module
pub record IsAllowedRound («module» : Module) (plan : Plan) (run : Record) : Type 0 where
  pub round : IsRound true «module» plan run
  pub certificate : Certificate
  pub says : SaysOver «module» (run_text run) (Allowed certificate)

-- a round of the plan whose document is over the limit of bytes
pub record IsTooLarge («module» : Module) (plan : Plan) (run : Record) : Type 0 where
  pub round : IsRound true «module» plan run
  pub past : max_document_bytes < length (run_text run)

-- the refusal of such a document
abbrev pub too_large_text : List ℕ
too_large_text = ended (verdict_text (Refused (refusal.Document TooLarge)))

-- an answer that prints it
pub record PrintsTooLarge («module» : Module) (plan : Plan) (run : Record) (answer : Answer) : Type 0 where
  pub is_too_large : IsTooLarge «module» plan run
  pub status_is : answer.status ≡ 2
  pub text_is : string_bytes answer.text ≡ too_large_text

-- the outcome of each run
abbrev pub outcomes : List Record → List (List ℕ)
outcomes runs = map (λ (run : Record). outcome_text run.log) runs

-- one more run was counted
abbrev pub CountsRun : Record → BTreeMap (String Global) ℕ → BTreeMap (String Global) ℕ → Type 0
CountsRun run old new = CountsOneMore (outcome_text run.log) old new

-- this number of rounds were made, each is allowed, and their outcomes are counted
pub record HasMade («module» : Module) (plan : Plan) (number : ℕ) (counts : BTreeMap (String Global) ℕ) : Type 0 where
  pub runs : List Record
  pub many : length runs ≡ number
  pub allowed : All (IsAllowedRound «module» plan) runs
  pub counted : Counts (outcomes runs) counts

-- this number of rounds, if it is below 2^64, were made and counted
abbrev pub HasCounted : Module → Plan → ℕ → BTreeMap (String Global) ℕ → Type 0
HasCounted «module» plan number counts = number < 2 ^ 64 → HasMade «module» plan number counts

-- a table, and the number of rounds
abbrev pub rounds_text : List ℕ → ℕ → List ℕ
rounds_text table count = table ++ ended (codes "allowed rounds=" ++ decimal count)

-- an answer prints these
pub record PrintsRounds (table : List ℕ) (count : ℕ) (answer : Answer) : Type 0 where
  pub status_is : answer.status ≡ 0
  pub text_is : string_bytes answer.text ≡ rounds_text table count

-- the status and the text that answer a module, a plan and a number of rounds
pub data AnswersRounds (module_bytes : List ℕ) (plan : Plan) (count : ℕ) (status : ℕ) (text : List ℕ) : Type 0 where
  no_module : (refusal : Refusal) → IsModuleRefusal module_bytes refusal
      → status ≡ 2 → text ≡ ended (verdict_text (Refused refusal)) → AnswersRounds module_bytes plan count status text
  refused : («module» : Module) (fault : RunFault) → IsModuleOf module_bytes «module» → fault ≢ OutOfMemory → IsRoundFault «module» plan fault
      → status ≡ 2 → text ≡ ended (run_fault_line_text fault) → AnswersRounds module_bytes plan count status text
  -- fewer than this number of rounds, all allowed, and then a round whose document is over the limit of bytes
  too_large : («module» : Module) (runs : List Record) (run : Record) → IsModuleOf module_bytes «module»
      → length runs < count → All (IsAllowedRound «module» plan) runs → IsTooLarge «module» plan run
      → status ≡ 2 → text ≡ too_large_text → AnswersRounds module_bytes plan count status text
  -- this number of rounds, all allowed, and the table of their outcomes
  made : («module» : Module) (runs : List Record) (table : List ℕ) → IsModuleOf module_bytes «module»
      → length runs ≡ count → All (IsAllowedRound «module» plan) runs → IsTableText (outcomes runs) table
      → status ≡ 0 → text ≡ rounds_text table count → AnswersRounds module_bytes plan count status text

-- an answer to rounds, whichever bytes spell the module
abbrev pub RunsOver : Module → Rounds → Answer → Type 0
RunsOver «module» rounds answer =
    (module_bytes : List ℕ) → IsModuleOf module_bytes «module» → AnswersRounds module_bytes rounds.plan rounds.count answer.status (string_bytes answer.text)

-- the answer to a round whose document is over the limit of bytes, whichever bytes spell the module
abbrev pub IsRefusedRound : Module → Rounds → Record → Answer → Type 0
IsRefusedRound «module» rounds run answer = (module_bytes : List ℕ) → IsModuleOf module_bytes «module» → PrintsTooLarge «module» rounds.plan run answer

-- what judging a round gives: nothing if it is allowed, else the answer to all
abbrev pub IsJudged : Module → Rounds → Record → Option Answer → Type 0
IsJudged «module» rounds run answer = MatchOption answer (IsAllowedRound «module» rounds.plan run) (IsRefusedRound «module» rounds run)

-- the answer to all was found
abbrev pub HasAnswer : Module → Rounds → Option Answer → Type 0
HasAnswer «module» rounds answer = MatchOption answer ⊥ (RunsOver «module» rounds)

-- how functions of this type are called with a run that is lent to them: when they may be, and what they answer
abbrev pub Judge : Type 0 → Type 1
Judge J = Shared J (Bor Record × Unit {0}) (Result (Option Answer) AllocError)

-- a judge may be called for this round, and then it judges it
pub record CanJudge {J : Type 0} (judge : Judge J) (f : J) («module» : Module) (rounds : Rounds) (run : Record) : Type 0 where
  pub can : (lent : Bor Record) → lent.now ≡ run → judge.pre f (lent, tt)
  pub judged : (result : Result (Option Answer) AllocError) → FnReturnsAt judge f run result → IfOk result (IsJudged «module» rounds run)

-- the status and the text that answer the words of rounds of the module of a file, whose bytes may be known: the answer
-- to the rounds that a word of their number and the words of the starts spell, or a refusal of the first word that
-- spells nothing
pub data IsRoundsAnswer (known : Option (List ℕ)) (count : List ℕ) (starts : List (List ℕ)) (status : ℕ) (text : List ℕ) : Type 0 where
  ran : (rounds : Rounds) (module_bytes : List ℕ) → IsRoundsOf count starts rounds → IsReadOf known max_module_bytes module_bytes
      → AnswersRounds module_bytes rounds.plan rounds.count status text → IsRoundsAnswer known count starts status text
  no_rounds : (fault : WordFault) → fault ≢ word.OutOfMemory → SpellNoRounds count starts fault
      → status ≡ 2 → text ≡ ended (word_line_text fault) → IsRoundsAnswer known count starts status text
