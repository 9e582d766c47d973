-- The check of a run's own document.
use Rattle.std.specs.Prelude.{◌≡◌, ◌<◌, ℕ, List, length}
use Rattle.serde_json.specs.Written.{compact_text}
use Rattle.wm_ast.specs.declared.module.Module.{Module}
use Rattle.wm_check.specs.declared.verdict.Refusal.TheVariants as refusal
use Rattle.wm_check.specs.declared.verdict.Verdict.{Verdict}
use Rattle.wm_check.specs.declared.verdict.Verdict.TheVariants.{Allowed, Refused, Broken}
use Rattle.wm_check.specs.Run.{IsModuleOf}
use Rattle.wm_event.specs.Shape.{event_count}
use Rattle.wm_logfile.specs.Limits.{max_document_bytes}
use Rattle.wm_logfile.specs.declared.fault.DocFault.TheVariants.{TooLarge}
use Rattle.wm_logfile.specs.Document.{document_2}
use Rattle.wm_run.specs.Own.{IsOwnRun, IsWithinPlan}
use Rattle.wm_run.specs.Run.{Record}

-- the document of a run, in version 2
abbrev pub run_text : Record → List ℕ
run_text run = compact_text (document_2 run.log run.witness)

-- an own run of this module, which these bytes spell
pub record IsMadeOf (module_bytes : List ℕ) («module» : Module) (run : Record) : Type 0 where
  pub modules : IsModuleOf module_bytes «module»
  pub own : IsOwnRun «module» run
  pub within : IsWithinPlan run

-- the verdict on its own document: that the run is allowed, or that the text is over the limit of bytes
abbrev pub IsOwnVerdict : Record → Verdict → Type 0
IsOwnVerdict run (Allowed certificate) = (certificate.threads ≡ length run.log) × (certificate.events ≡ event_count run.log)
IsOwnVerdict run (Refused reason) = (reason ≡ refusal.Document TooLarge) × (max_document_bytes < length (run_text run))
IsOwnVerdict run (Broken breach) = ⊥

-- the verdict on an own run, whichever bytes spell its module
abbrev pub IsOwnVerdictOver : Module → Record → Verdict → Type 0
IsOwnVerdictOver «module» run verdict = (module_bytes : List ℕ) → IsMadeOf module_bytes «module» run → IsOwnVerdict run verdict
