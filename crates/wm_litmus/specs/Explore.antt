-- The answers of the commands `explore` and `witnesses`.
use Rattle.std.specs.Prelude.{◌≡◌, ◌≢◌, ℕ, List, [], ◌++◌, Option, None, Some, All, codes, length, string_bytes, IsPermutation}
use Rattle.std.specs.Fmt.{decimal}
use Rattle.std.specs.List.{AllZip, flat_map}
use Rattle.serde_json.specs.Written.{compact_text}
use Rattle.wm_ast.specs.declared.module.Module.{Module}
use Rattle.wm_check.specs.declared.verdict.Refusal.{Refusal}
use Rattle.wm_check.specs.declared.verdict.Verdict.TheVariants.{Refused}
use Rattle.wm_check.specs.Reading.{IsModuleRefusal}
use Rattle.wm_check.specs.Run.{IsModuleOf}
use Rattle.wm_check.specs.Texts.{verdict_text}
use Rattle.wm_command.specs.declared.fault.WordFault.{WordFault}
use Rattle.wm_command.specs.declared.fault.WordFault.TheVariants as word
use Rattle.wm_command.specs.declared.words.Exploration.{Exploration as Words}
use Rattle.wm_command.specs.Words.{IsExplorationOf, SpellNoExploration}
use Rattle.wm_decode.specs.Bounds.{max_module_bytes}
use Rattle.wm_event.specs.declared.log.Start.{Start}
use Rattle.wm_event.specs.Fitting.{FitsLog}
use Rattle.wm_event.specs.LoggedRun.{LoggedRun, execution}
use Rattle.wm_explore.specs.declared.bound.Bound.{Bound}
use Rattle.wm_explore.specs.declared.bound.Bound.TheVariants.{Graphs, Nodes, Steps, Events}
use Rattle.wm_explore.specs.declared.exploration.Exploration.{Exploration}
use Rattle.wm_explore.specs.declared.exploration.Finished.{Finished}
use Rattle.wm_explore.specs.Executions.{IsCausal, IsExecutionOf, ends_of}
use Rattle.wm_explore.specs.Search.{Explores, Lists}
use Rattle.wm_explore.specs.Uniform.{IsMixedModule, IsUniformModule, LeavesOutNone}
use Rattle.wm_logfile.specs.Document.{document_2}
use Rattle.wm_run.specs.declared.fault.RunFault.{RunFault}
use Rattle.wm_run.specs.declared.fault.RunFault.TheVariants.{OutOfMemory}
use Rattle.wm_run.specs.Refusal.{IsScriptFault}
use Rattle.wm_litmus.specs.declared.answer.Answer.{Answer}
use Rattle.wm_litmus.specs.declared.explore.Coverage.{Coverage}
use Rattle.wm_litmus.specs.declared.explore.Coverage.TheVariants.{Causal, Every}
use Rattle.wm_litmus.specs.declared.explore.Listing.{Listing}
use Rattle.wm_litmus.specs.declared.explore.Listing.TheVariants.{Outcomes, Documents}
use Rattle.wm_litmus.specs.declared.explore.OutcomeRow.{OutcomeRow}
use Rattle.wm_litmus.specs.Input.{IsReadOf}
use Rattle.wm_litmus.specs.Lines.{run_fault_line_text, word_line_text}
use Rattle.wm_litmus.specs.Outcomes.{outcome_text}
use Rattle.wm_litmus.specs.Prints.{ended}

-- ---- the rows

-- the outcome of an execution, and its document
pub record IsRowOf (f : Finished) (row : OutcomeRow) : Type 0 where
  pub outcome_is : string_bytes row.outcome ≡ outcome_text f.log
  pub document_is : string_bytes row.document ≡ compact_text (document_2 f.log f.witness)

-- each has a witness that fits its log, so that there is a document of it
abbrev pub FitTheirLogs : List Finished → Type 0
FitTheirLogs finished = All (λ (f : Finished). FitsLog f.log f.witness) finished

-- the rows of all executions, in some order
pub record AreRows (finished : List Finished) (rows : List OutcomeRow) : Type 0 where
  pub listed : List OutcomeRow
  pub are : AllZip IsRowOf finished listed
  pub same : IsPermutation listed rows

abbrev pub outcome_line : OutcomeRow → List ℕ
outcome_line row = ended (codes "outcome " ++ string_bytes row.outcome)

abbrev pub document_line : OutcomeRow → List ℕ
document_line row = ended (string_bytes row.document)

-- ---- the exploration

abbrev pub bound_text : Bound → List ℕ
bound_text Graphs = codes "graphs"
bound_text Nodes = codes "nodes"
bound_text (Steps thread) = codes "steps thread " ++ decimal thread
bound_text (Events thread) = codes "events thread " ++ decimal thread

abbrev pub counts_text : Exploration → List ℕ
counts_text e = codes " outcomes=" ++ (decimal (length e.finished) ++ (codes " graphs=" ++ decimal e.graphs))

abbrev pub coverage_text : Coverage → List ℕ
coverage_text Every = codes " all"
coverage_text Causal = []

abbrev pub last_by : Exploration → Coverage → Option Bound → List ℕ
last_by e coverage None = ended (codes "explored" ++ (counts_text e ++ coverage_text coverage))
last_by e coverage (Some bound) = ended (codes "bounded" ++ (counts_text e ++ (codes " " ++ bound_text bound)))

abbrev pub last_text : Exploration → Coverage → List ℕ
last_text e coverage = last_by e coverage e.met

abbrev pub status_by : Option Bound → ℕ
status_by None = 0
status_by (Some bound) = 1

abbrev pub status_of : Exploration → ℕ
status_of e = status_by e.met

-- what is printed of an exploration whose rows these are
abbrev pub listing_text : Listing → Exploration → Coverage → List OutcomeRow → List ℕ
listing_text Outcomes e coverage rows = flat_map outcome_line rows ++ last_text e coverage
listing_text Documents e coverage rows = flat_map document_line rows

-- an answer prints the rows of an exploration
pub record PrintsListing (listing : Listing) (e : Exploration) (coverage : Coverage) (answer : Answer) : Type 0 where
  pub rows : List OutcomeRow
  pub are_rows : AreRows e.finished rows
  pub status_is : answer.status ≡ status_of e
  pub text_is : string_bytes answer.text ≡ listing_text listing e coverage rows

-- ---- what it covers

-- it covers all executions of the module exactly if all accesses of the module are atomic and have one width
abbrev pub Covers : Module → Coverage → Type 0
Covers m Every = IsUniformModule m × LeavesOutNone m
Covers m Causal = IsMixedModule m

-- without a bound the outcome of each execution that is covered was found: with `all` that of every valid execution of the
-- module in which each thread ends
abbrev pub FindsCovered : Module → List Start → Exploration → Coverage → Type 0
FindsCovered m starts e Every = e.met ≡ None → (x : LoggedRun) → IsExecutionOf m starts x → Lists e.finished (ends_of x.log)
FindsCovered m starts e Causal =
    e.met ≡ None → (x : LoggedRun) → IsExecutionOf m starts x → IsCausal (execution x) → Lists e.finished (ends_of x.log)

-- ---- the answers

-- the status and the text that answer the bytes of a module and an exploration
pub data AnswersExplore (listing : Listing) (module_bytes : List ℕ) (words : Words) (status : ℕ) (text : List ℕ) : Type 0 where
  no_module : (refusal : Refusal) → IsModuleRefusal module_bytes refusal
      → status ≡ 2 → text ≡ ended (verdict_text (Refused refusal)) → AnswersExplore listing module_bytes words status text
  -- the threads aren't started
  refused : («module» : Module) (fault : RunFault) → IsModuleOf module_bytes «module» → fault ≢ OutOfMemory → IsScriptFault «module» words.plan [] fault
      → status ≡ 2 → text ≡ ended (run_fault_line_text fault) → AnswersExplore listing module_bytes words status text
  -- what was found of the module, whether a bound was met, and what is covered
  explored : («module» : Module) (e : Exploration) (coverage : Coverage) (rows : List OutcomeRow) → IsModuleOf module_bytes «module»
      → Explores «module» words.plan.starts words.events e → Covers «module» coverage → FindsCovered «module» words.plan.starts e coverage → AreRows e.finished rows
      → status ≡ status_of e → text ≡ listing_text listing e coverage rows → AnswersExplore listing module_bytes words status text

-- an answer to an exploration, whichever bytes spell the module
abbrev pub ExploresOver : Listing → Module → Words → Answer → Type 0
ExploresOver listing «module» words answer =
    (module_bytes : List ℕ) → IsModuleOf module_bytes «module» → AnswersExplore listing module_bytes words answer.status (string_bytes answer.text)

-- the status and the text that answer the words of an exploration of the module of a file, whose bytes may be known: the
-- answer to the exploration that they spell, or a refusal of the first word that spells nothing
pub data IsExplorationAnswer (listing : Listing) (known : Option (List ℕ)) (events : List ℕ) (starts : List (List ℕ)) (status : ℕ) (text : List ℕ) : Type 0 where
  made : (words : Words) (module_bytes : List ℕ) → IsExplorationOf events starts words → IsReadOf known max_module_bytes module_bytes
      → AnswersExplore listing module_bytes words status text → IsExplorationAnswer listing known events starts status text
  no_exploration : (fault : WordFault) → fault ≢ word.OutOfMemory → SpellNoExploration events starts fault
      → status ≡ 2 → text ≡ ended (word_line_text fault) → IsExplorationAnswer listing known events starts status text
