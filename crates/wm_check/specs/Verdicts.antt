-- The meaning of each verdict.
use Rattle.std.specs.Prelude.{◌≡◌, ◌≢◌, ℕ, List, length, Result, Ok, Err}
use Rattle.wm_ast.specs.declared.module.Module.{Module}
use Rattle.wm_decode.specs.declared.fault.DecodeFault.{DecodeFault}
use Rattle.wm_decode.specs.declared.fault.DecodeFault.TheVariants as decode
use Rattle.wm_decode.specs.declared.fault.Limit.{Limit}
use Rattle.wm_decode.specs.Implements.{Decodes, IsFaultOf, RefusedBy}
use Rattle.wm_decode.specs.Module.{IsPast, SpellsWithin, spells}
use Rattle.wm_decode.specs.ReadingModule.{whole_at}
use Rattle.wm_event.specs.declared.rule.Judgement.TheVariants as judgement
use Rattle.wm_event.specs.declared.rule.RuleFault.{RuleFault}
use Rattle.wm_event.specs.declared.shape_fault.ShapeFault.{ShapeFault}
use Rattle.wm_event.specs.declared.shape_fault.ShapeFault.TheVariants as shape
use Rattle.wm_event.specs.Faults.{Judges}
use Rattle.wm_event.specs.First.{IsFirst}
use Rattle.wm_event.specs.LoggedRun.{LoggedRun, execution}
use Rattle.wm_event.specs.Rules.{IsValid}
use Rattle.wm_event.specs.Shape.{Misshapes, event_count, shape_rank}
use Rattle.wm_logfile.specs.DocumentBytes.{IsNoDocument}
use Rattle.wm_replay.specs.declared.answer.ReplayAnswer.{ReplayAnswer}
use Rattle.wm_replay.specs.declared.answer.ReplayAnswer.TheVariants as replay
use Rattle.wm_replay.specs.Comparison.{Replays}
use Rattle.wm_replay.specs.Replay.{AreRuns}
use Rattle.wm_valid.specs.declared.fault.ValidFault.{ValidFault}
use Rattle.wm_valid.specs.declared.fault.ValidFault.TheVariants as valid
use Rattle.wm_valid.specs.Blame.{Breaks}
use Rattle.wm_valid.specs.Valid.{Valid}
use Rattle.wm_check.specs.declared.verdict.Certificate.{Certificate}
use Rattle.wm_check.specs.declared.verdict.Refusal.{Refusal}
use Rattle.wm_check.specs.declared.verdict.Refusal.TheVariants as refusal
use Rattle.wm_check.specs.declared.verdict.Breach.{Breach}
use Rattle.wm_check.specs.declared.verdict.Breach.TheVariants as breach
use Rattle.wm_check.specs.declared.verdict.Verdict.{Verdict}
use Rattle.wm_check.specs.declared.verdict.Verdict.TheVariants.{Allowed, Refused, Broken}
use Rattle.wm_check.specs.Run.{IsCandidateOf, IsModuleOf, IsRunOf}

-- ---- allowed

-- The bytes spell a valid module, and a log with a witness. Each thread's events and end are the ones that the module
-- gives it on the values that it read, and the memory rules permit the events.
pub record IsAllowed (module_bytes document_bytes : List ℕ) (certificate : Certificate) : Type 0 where
  pub «module» : Module
  pub run : LoggedRun
  pub candidate : IsCandidateOf module_bytes document_bytes «module» run
  pub threads_are_runs : AreRuns «module» run.log
  pub execution_is_valid : IsValid (execution run)
  pub threads : certificate.threads ≡ length run.log
  pub events : certificate.events ≡ event_count run.log

-- ---- refused

-- The bytes spell no module. The fault is what reading from left to right stops at, at its offset; for bytes that spell
-- a module over the limits, a limit is named only if they or the module are over it.
pub record IsNoModule (bytes : List ℕ) (fault : DecodeFault) : Type 0 where
  pub no_module : («module» : Module) → ¬ SpellsWithin bytes «module»
  pub limits : Decodes {X = Module} (Err fault) (whole_at bytes)
  pub stops : IsFaultOf {X = Module} (length bytes) (whole_at bytes) fault
  pub past : («module» : Module) (limit : Limit) → spells bytes «module» → RefusedBy {X = Module} limit (Err fault) → IsPast limit bytes «module»
  pub no_want : fault ≢ decode.OutOfMemory

-- the spelled module isn't valid, and breaks a rule as the fault states
pub record IsInvalid (bytes : List ℕ) (fault : ValidFault) : Type 0 where
  pub «module» : Module
  pub spelled : SpellsWithin bytes «module»
  pub invalid : ¬ Valid «module»
  pub breaks : Breaks «module» fault
  pub no_want : fault ≢ valid.OutOfMemory

-- the log and the witness are not a candidate, and this is the first fault of their shape
pub record IsMisshapen (module_bytes document_bytes : List ℕ) (fault : ShapeFault) : Type 0 where
  pub «module» : Module
  pub run : LoggedRun
  pub is_run : IsRunOf module_bytes document_bytes «module» run
  pub first : IsFirst shape_rank (Misshapes run) fault
  pub no_want : fault ≢ shape.OutOfMemory

abbrev pub IsRefusedFor : List ℕ → List ℕ → Refusal → Type 0
IsRefusedFor module_bytes document_bytes (refusal.Decode fault) = IsNoModule module_bytes fault
IsRefusedFor module_bytes document_bytes (refusal.Valid fault) = IsInvalid module_bytes fault
IsRefusedFor module_bytes document_bytes (refusal.Document fault) =
    ((«module» : Module) × IsModuleOf module_bytes «module») × IsNoDocument document_bytes fault
IsRefusedFor module_bytes document_bytes (refusal.Shape fault) = IsMisshapen module_bytes document_bytes fault

-- ---- broken

-- some thread's log isn't its run, and this is the first difference
pub record IsNoRun (module_bytes document_bytes : List ℕ) (answer : ReplayAnswer) : Type 0 where
  pub «module» : Module
  pub run : LoggedRun
  pub candidate : IsCandidateOf module_bytes document_bytes «module» run
  pub differs : answer ≢ replay.Same
  pub first : Replays «module» run.log answer

-- each thread's log is its run, but a memory rule is broken, and this is the first fault
pub record IsForbidden (module_bytes document_bytes : List ℕ) (fault : RuleFault) : Type 0 where
  pub «module» : Module
  pub run : LoggedRun
  pub candidate : IsCandidateOf module_bytes document_bytes «module» run
  pub threads_are_runs : AreRuns «module» run.log
  pub first : Judges (execution run) (judgement.Broken fault)

abbrev pub IsBrokenBy : List ℕ → List ℕ → Breach → Type 0
IsBrokenBy module_bytes document_bytes (breach.Replay answer) = IsNoRun module_bytes document_bytes answer
IsBrokenBy module_bytes document_bytes (breach.Rule fault) = IsForbidden module_bytes document_bytes fault

-- ---- the verdict

abbrev pub IfAllowed : {E : Type 0} → Result Verdict E → (Certificate → Type 0) → Type 0
IfAllowed (Ok (Allowed certificate)) P = P certificate
IfAllowed (Ok (Refused refusal)) P = Unit {0}
IfAllowed (Ok (Broken breach)) P = Unit {0}
IfAllowed (Err e) P = Unit {0}

abbrev pub IfRefused : {E : Type 0} → Result Verdict E → (Refusal → Type 0) → Type 0
IfRefused (Ok (Allowed certificate)) P = Unit {0}
IfRefused (Ok (Refused refusal)) P = P refusal
IfRefused (Ok (Broken breach)) P = Unit {0}
IfRefused (Err e) P = Unit {0}

abbrev pub IfBroken : {E : Type 0} → Result Verdict E → (Breach → Type 0) → Type 0
IfBroken (Ok (Allowed certificate)) P = Unit {0}
IfBroken (Ok (Refused refusal)) P = Unit {0}
IfBroken (Ok (Broken breach)) P = P breach
IfBroken (Err e) P = Unit {0}

-- the meaning of the verdict
abbrev pub Says : List ℕ → List ℕ → Verdict → Type 0
Says module_bytes document_bytes (Allowed certificate) = IsAllowed module_bytes document_bytes certificate
Says module_bytes document_bytes (Refused refusal) = IsRefusedFor module_bytes document_bytes refusal
Says module_bytes document_bytes (Broken breach) = IsBrokenBy module_bytes document_bytes breach
