-- The results of the parts of a check.
use Rattle.std.specs.Prelude.{◌≡◌, ℕ, List}
use Rattle.wm_ast.specs.declared.module.Module.{Module}
use Rattle.wm_event.specs.declared.log.ThreadLog.{ThreadLog}
use Rattle.wm_event.specs.declared.witness.Witness.{Witness}
use Rattle.wm_event.specs.LoggedRun.{LoggedRun}
use Rattle.wm_event.specs.Shape.{IsWellShaped}
use Rattle.wm_logfile.specs.DocumentBytes.{IsDocumentOf, IsNoDocument}
use Rattle.wm_check.specs.declared.checker.Unread.{Unread}
use Rattle.wm_check.specs.declared.checker.Unread.TheVariants.{Refused, OutOfMemory}
use Rattle.wm_check.specs.declared.verdict.Refusal.{Refusal}
use Rattle.wm_check.specs.declared.verdict.Refusal.TheVariants as refusal
use Rattle.wm_check.specs.declared.verdict.Verdict.{Verdict}
use Rattle.wm_valid.specs.Valid.{IsInit}
use Rattle.wm_check.specs.Run.{IsCandidateOf, IsModuleOf}
use Rattle.wm_check.specs.Verdicts.{IsInvalid, IsNoModule, Says}

-- why the bytes of a module give no module
abbrev pub IsModuleRefusal : List ℕ → Refusal → Type 0
IsModuleRefusal bytes (refusal.Decode fault) = IsNoModule bytes fault
IsModuleRefusal bytes (refusal.Valid fault) = IsInvalid bytes fault
IsModuleRefusal bytes (refusal.Document fault) = ⊥
IsModuleRefusal bytes (refusal.Shape fault) = ⊥

abbrev pub IsUnreadModule : List ℕ → Unread → Type 0
IsUnreadModule bytes (Refused r) = IsModuleRefusal bytes r
IsUnreadModule bytes OutOfMemory = Unit {0}

-- why the bytes of a document give no log
abbrev pub IsDocumentRefusal : List ℕ → Refusal → Type 0
IsDocumentRefusal bytes (refusal.Decode fault) = ⊥
IsDocumentRefusal bytes (refusal.Valid fault) = ⊥
IsDocumentRefusal bytes (refusal.Document fault) = IsNoDocument bytes fault
IsDocumentRefusal bytes (refusal.Shape fault) = ⊥

abbrev pub IsUnreadDocument : List ℕ → Unread → Type 0
IsUnreadDocument bytes (Refused r) = IsDocumentRefusal bytes r
IsUnreadDocument bytes OutOfMemory = Unit {0}

-- what the verdict states for all bytes that spell the module, and the log with the witness
abbrev pub ComparesOver : Module → List ThreadLog → Witness → Verdict → Type 0
ComparesOver «module» log witness verdict =
    (module_bytes document_bytes : List ℕ) → IsModuleOf module_bytes «module» → IsDocumentOf document_bytes log witness → Says module_bytes document_bytes verdict

-- the same for a candidate over the module's initial memory
abbrev pub ComparesLog : Module → LoggedRun → Verdict → Type 0
ComparesLog «module» run verdict =
    (module_bytes document_bytes : List ℕ) → IsModuleOf module_bytes «module» → IsDocumentOf document_bytes run.log run.witness → IsInit «module» run.initial
    → IsWellShaped run → Says module_bytes document_bytes verdict

-- what the verdict states for these bytes of a document and all bytes that spell the module
abbrev pub SaysOver : Module → List ℕ → Verdict → Type 0
SaysOver «module» document_bytes verdict =
    (module_bytes : List ℕ) → IsModuleOf module_bytes «module» → Says module_bytes document_bytes verdict

-- a candidate of this log and this witness over the module's initial memory
pub record IsCandidateOver («module» : Module) (log : List ThreadLog) (witness : Witness) (run : LoggedRun) : Type 0 where
  pub log_is : run.log ≡ log
  pub witness_is : run.witness ≡ witness
  pub initial : IsInit «module» run.initial
  pub shape : IsWellShaped run

-- the candidate that these bytes of a document spell over the module's initial memory
abbrev pub IsRecordedOver : Module → List ℕ → LoggedRun → Type 0
IsRecordedOver «module» document_bytes run =
    (module_bytes : List ℕ) → IsModuleOf module_bytes «module» → IsCandidateOf module_bytes document_bytes «module» run
