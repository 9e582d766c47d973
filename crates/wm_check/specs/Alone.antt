-- A run that is allowed gets no other verdict.
use Rattle.std.specs.Prelude.{◌≡◌, ◌<◌, ℕ, List, length}
use Rattle.wm_ast.specs.declared.module.Module.{Module}
use Rattle.wm_check.specs.declared.verdict.Certificate.{Certificate}
use Rattle.wm_check.specs.declared.verdict.Refusal.TheVariants as refusal
use Rattle.wm_check.specs.declared.verdict.Verdict.{Verdict}
use Rattle.wm_check.specs.declared.verdict.Verdict.TheVariants.{Allowed, Refused, Broken}
use Rattle.wm_event.specs.LoggedRun.{LoggedRun, execution}
use Rattle.wm_event.specs.Rules.{IsValid}
use Rattle.wm_event.specs.Shape.{event_count}
use Rattle.wm_logfile.specs.Limits.{max_document_bytes}
use Rattle.wm_logfile.specs.declared.fault.DocFault.TheVariants.{TooLarge}
use Rattle.wm_replay.specs.Replay.{AreRuns}
use Rattle.wm_check.specs.Run.{IsCandidateOf, IsModuleOf}
use Rattle.wm_check.specs.Verdicts.{Says}

-- the bytes spell the module and a candidate whose threads are their runs and which is a valid execution
pub record IsPermitted (module_bytes document_bytes : List ℕ) («module» : Module) (run : LoggedRun) : Type 0 where
  pub candidate : IsCandidateOf module_bytes document_bytes «module» run
  pub threads_are_runs : AreRuns «module» run.log
  pub execution_is_valid : IsValid (execution run)

-- the certificate states how many threads and events the run has
abbrev pub Counts : LoggedRun → Certificate → Type 0
Counts run certificate = (certificate.threads ≡ length run.log) × (certificate.events ≡ event_count run.log)

-- the verdict is that the run is allowed
abbrev pub Allows : LoggedRun → Verdict → Type 0
Allows run (Allowed certificate) = Counts run certificate
Allows run (Refused reason) = ⊥
Allows run (Broken reason) = ⊥

-- the only verdict on such bytes is that they are allowed
abbrev pub AllowedAlone : Type 0
AllowedAlone =
    (module_bytes document_bytes : List ℕ) («module» : Module) (run : LoggedRun) (verdict : Verdict) → IsPermitted module_bytes document_bytes «module» run
    → Says module_bytes document_bytes verdict → Allows run verdict

-- for bytes that spell a module, and a document over the limit of bytes, the only verdict is that the document is too
-- large
abbrev pub TooLargeAlone : Type 0
TooLargeAlone =
    (module_bytes document_bytes : List ℕ) («module» : Module) (verdict : Verdict) → IsModuleOf module_bytes «module» → max_document_bytes < length document_bytes
    → Says module_bytes document_bytes verdict → verdict ≡ Refused (refusal.Document TooLarge)
