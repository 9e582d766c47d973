-- The text and the status of a verdict answer the bytes that it is on.
use Rattle.std.proofs.Common.{◌≡◌, ℕ, List, refl}
use Rattle.std.specs.Prelude.{Ok}
use Rattle.std.specs.declared.alloc.AllocError.{AllocError}
use Rattle.wm_check.specs.declared.verdict.Verdict.{Verdict}
use Rattle.wm_check.specs.declared.verdict.Verdict.TheVariants.{Allowed, Refused, Broken}
use Rattle.wm_check.specs.Verdicts.{IfAllowed, IfBroken, IfRefused, IsAllowed, IsBrokenBy, IsRefusedFor, Says}
use Rattle.wm_check.specs.Texts.{verdict_status, verdict_text}
use Rattle.wm_logfile.specs.declared.fault.DocFault.{DocFault}
use Rattle.wm_logfile.specs.declared.fault.DocFault.TheVariants.{NotJson, BadShape, BadVersion, NumberRange, TooLarge, OutOfMemory, Misplaced}
use Rattle.wm_logfile.specs.DocumentBytes.{IsNoDocument}
use Rattle.wm_logfile.specs.Migration.{IsMisplaced}
use Rattle.wm_litmus.specs.Tasks.{AnswersCheck, AnswersMigrate}
use Rattle.wm_litmus.specs.Tasks.AnswersCheck.{allowed, refused_for, broken_by}
use Rattle.wm_litmus.specs.Tasks.AnswersMigrate.{misplaced, refused}
use Rattle.wm_litmus.specs.Lines.{document_line_text}
use Rattle.wm_litmus.specs.Prints.{ended}

pub answers_check : (module_bytes document_bytes : List ℕ) (v : Verdict) (status : ℕ) (text : List ℕ)
    → IfAllowed {E = AllocError} (Ok v) (IsAllowed module_bytes document_bytes) → IfRefused {E = AllocError} (Ok v) (IsRefusedFor module_bytes document_bytes)
    → IfBroken {E = AllocError} (Ok v) (IsBrokenBy module_bytes document_bytes)
    → status ≡ verdict_status v → text ≡ ended (verdict_text v) → AnswersCheck module_bytes document_bytes status text
answers_check mb db (Allowed certificate) status text is_allowed is_refused is_broken s l = allowed certificate is_allowed s l
answers_check mb db (Refused refusal) status text is_allowed is_refused is_broken s l = refused_for refusal is_refused s l
answers_check mb db (Broken breach) status text is_allowed is_refused is_broken s l = broken_by breach is_broken s l

-- and those of a fault of migrating
module _ (bytes : List ℕ) (status : ℕ) (text : List ℕ) where
  pub answers_fault : (fault : DocFault) → (fault ≡ OutOfMemory → ⊥) → (fault ≡ Misplaced → IsMisplaced bytes)
      → ((fault ≡ OutOfMemory → ⊥) → (fault ≡ Misplaced → ⊥) → IsNoDocument bytes fault)
      → status ≡ 2 → text ≡ ended (document_line_text fault) → AnswersMigrate bytes status text
  answers_fault NotJson memory place none s t = refused NotJson (none memory (λ e. absurd cc)) s t
  answers_fault (BadShape p) memory place none s t = refused (BadShape p) (none memory (λ e. absurd cc)) s t
  answers_fault BadVersion memory place none s t = refused BadVersion (none memory (λ e. absurd cc)) s t
  answers_fault (NumberRange p) memory place none s t = refused (NumberRange p) (none memory (λ e. absurd cc)) s t
  answers_fault TooLarge memory place none s t = refused TooLarge (none memory (λ e. absurd cc)) s t
  answers_fault OutOfMemory memory place none s t = absurd (memory refl)
  answers_fault Misplaced memory place none s t = misplaced (place refl) s t

-- the meaning of a verdict on bytes, by each of its parts
pub says : (module_bytes document_bytes : List ℕ) (v : Verdict) → IfAllowed {E = AllocError} (Ok v) (IsAllowed module_bytes document_bytes)
    → IfRefused {E = AllocError} (Ok v) (IsRefusedFor module_bytes document_bytes) → IfBroken {E = AllocError} (Ok v) (IsBrokenBy module_bytes document_bytes) → Says module_bytes document_bytes v
says mb db (Allowed certificate) is_allowed is_refused is_broken = is_allowed
says mb db (Refused refusal) is_allowed is_refused is_broken = is_refused
says mb db (Broken breach) is_allowed is_refused is_broken = is_broken
