-- What is stated for a log with the steps and the ends that its module gives it.
use Rattle.std.specs.Prelude.{◌≡◌, ℕ, List}
use Rattle.wm_ast.specs.declared.module.Module.{Module}
use Rattle.wm_event.specs.declared.log.ThreadLog.{ThreadLog}
use Rattle.wm_event.specs.declared.rule.Judgement.TheVariants as judgement
use Rattle.wm_event.specs.declared.witness.Witness.{Witness}
use Rattle.wm_event.specs.Faults.{Judges}
use Rattle.wm_event.specs.LoggedRun.{LoggedRun, execution}
use Rattle.wm_event.specs.Rules.{IsValid}
use Rattle.wm_event.specs.Shape.{IsWellShaped}
use Rattle.wm_logfile.specs.DocumentBytes.{IsDocumentOf}
use Rattle.wm_replay.specs.Complete.{IsCompletion}
use Rattle.wm_valid.specs.Valid.{IsInit}
use Rattle.wm_check.specs.declared.verdict.Breach.TheVariants.{Replay, Rule}
use Rattle.wm_check.specs.declared.verdict.Verdict.{Verdict}
use Rattle.wm_check.specs.declared.verdict.Verdict.TheVariants.{Allowed, Refused, Broken}
use Rattle.wm_check.specs.Alone.{Counts}
use Rattle.wm_check.specs.Completed.{HasNoRun, IsCompletedTo}
use Rattle.wm_check.specs.Run.{IsCandidateOf, IsModuleOf}
use Rattle.wm_check.specs.SameVerdict.{IsExact}
use Rattle.wm_check.specs.Verdicts.{IsRefusedFor, Says}

-- the run with another log
abbrev pub with_log : LoggedRun → List ThreadLog → LoggedRun
with_log run log = record { log = log; witness = run.witness; initial = run.initial }

-- the verdict of the memory rules alone
abbrev pub JudgesRun : LoggedRun → Verdict → Type 0
JudgesRun run (Allowed certificate) = IsValid (execution run) × Counts run certificate
JudgesRun run (Refused refusal) = ⊥
JudgesRun run (Broken (Replay answer)) = ⊥
JudgesRun run (Broken (Rule fault)) = Judges (execution run) (judgement.Broken fault)

-- the bytes are a candidate, and the verdict is the one of the memory rules on its log with the steps and the ends of
-- its runs
pub record IsJudgedCompleted (module_bytes document_bytes : List ℕ) (verdict : Verdict) : Type 0 where
  pub «module» : Module
  pub run : LoggedRun
  pub candidate : IsCandidateOf module_bytes document_bytes «module» run
  pub completed : List ThreadLog
  pub completion : IsCompletion «module» run.log completed
  pub judged : JudgesRun (with_log run completed) verdict

-- what the verdict states for the completed log; the replay's verdict states that there is no such log
abbrev pub Verifies : List ℕ → List ℕ → Verdict → Type 0
Verifies module_bytes document_bytes (Allowed certificate) = IsJudgedCompleted module_bytes document_bytes (Allowed certificate)
Verifies module_bytes document_bytes (Refused refusal) = IsRefusedFor module_bytes document_bytes refusal
Verifies module_bytes document_bytes (Broken (Replay answer)) = HasNoRun module_bytes document_bytes answer
Verifies module_bytes document_bytes (Broken (Rule fault)) = IsJudgedCompleted module_bytes document_bytes (Broken (Rule fault))

-- the same for these bytes of a document and all bytes that spell the module
abbrev pub VerifiesOver : Module → List ℕ → Verdict → Type 0
VerifiesOver «module» document_bytes verdict =
    (module_bytes : List ℕ) → IsModuleOf module_bytes «module» → Verifies module_bytes document_bytes verdict

-- for all bytes that spell the module, and the log with the witness
abbrev pub VerifiesPair : Module → List ThreadLog → Witness → Verdict → Type 0
VerifiesPair «module» log witness verdict =
    (module_bytes document_bytes : List ℕ) → IsModuleOf module_bytes «module» → IsDocumentOf document_bytes log witness → Verifies module_bytes document_bytes verdict

-- for a candidate over the module's initial memory
abbrev pub VerifiesCandidate : Module → LoggedRun → Verdict → Type 0
VerifiesCandidate «module» run verdict =
    (module_bytes document_bytes : List ℕ) → IsModuleOf module_bytes «module» → IsDocumentOf document_bytes run.log run.witness → IsInit «module» run.initial
    → IsWellShaped run → Verifies module_bytes document_bytes verdict

-- the verdict on a completed log is a function of the bytes, but for which rule an invalid module breaks first and where
abbrev pub OneVerified : Type 0
OneVerified = (mb db : List ℕ) (verdict other : Verdict) → IsExact verdict → Verifies mb db verdict → Verifies mb db other → verdict ≡ other

-- the verdict on a log and its completion is a check's verdict on the completed document, if this can be read
abbrev pub VerifiesAsCheck : Type 0
VerifiesAsCheck =
    (module_bytes document_bytes text : List ℕ) (verdict : Verdict) (to : IsCompletedTo module_bytes document_bytes text) → IsDocumentOf text to.completed to.run.witness
    → Verifies module_bytes document_bytes verdict → Says module_bytes text verdict
