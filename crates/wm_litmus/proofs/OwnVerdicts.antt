-- The verdict on a run's own document.
use Rattle.std.proofs.Common.{◌≡◌, ℕ, ◌<◌, ◌≤◌, inl, inr, List, length, refl, sym, ap, subst}
use Rattle.std.proofs.lemmas.Bool.{cases_lt}
use Rattle.wm_ast.specs.declared.module.Module.{Module}
use Rattle.wm_check.specs.declared.verdict.Certificate.{Certificate}
use Rattle.wm_check.specs.declared.verdict.Refusal.TheVariants as refusal
use Rattle.wm_check.specs.declared.verdict.Verdict.{Verdict}
use Rattle.wm_check.specs.declared.verdict.Verdict.TheVariants.{Allowed, Refused, Broken}
use Rattle.wm_check.specs.Alone.{AllowedAlone, Allows, IsPermitted, TooLargeAlone}
use Rattle.wm_check.specs.Verdicts.{Says}
use Rattle.wm_logfile.specs.declared.fault.DocFault.TheVariants.{TooLarge}
use Rattle.wm_logfile.specs.Document.{IsWithinLimits}
use Rattle.wm_logfile.specs.DocumentBytes.{IsDocumentOf}
use Rattle.wm_run.specs.Own.{OwnRunsAreAllowed, OwnRunsAreWithinLimits}
use Rattle.wm_run.specs.Run.{Record, over}
use Rattle.wm_litmus.specs.Own.{IsMadeOf, IsOwnVerdict, run_text}

-- the laws of the crates below, for all runs and all bytes
pub record OwnLaws : Type 0 where
  pub allowed : OwnRunsAreAllowed
  pub limits : OwnRunsAreWithinLimits
  pub alone : AllowedAlone
  pub too_large : TooLargeAlone

-- what is written of a run is read again as the same
abbrev pub IsReadAgain : List ℕ → Record → Type 0
IsReadAgain text run = length text ≤ 8388608 → IsWithinLimits run.log run.witness → IsDocumentOf text run.log run.witness

allowance : (run : Record) (initial : List ℕ) (v : Verdict) → Allows (over initial run) v → IsOwnVerdict run v
allowance run initial (Allowed certificate) counts = counts
allowance run initial (Refused reason) none = absurd none
allowance run initial (Broken breach) none = absurd none

pub own_verdict : (mb : List ℕ) (m : Module) (run : Record) (v : Verdict) → OwnLaws → IsMadeOf mb m run → IsReadAgain (run_text run) run → Says mb (run_text run) v → IsOwnVerdict run v
own_verdict mb m run v laws made again says = elim (cases_lt 8388608 (length (run_text run))) [
  | inl past ↦ subst (IsOwnVerdict run) (sym (laws.too_large mb (run_text run) m v made.modules past says)) (refl, past)
  | inr small ↦
      let initial = made.own.initial in
      let good = laws.allowed m run initial made.own made.own.is_init in
      let document = again small (laws.limits m run made.modules.valid made.own made.within) in
      let permitted : IsPermitted mb (run_text run) m (over initial run) = record {
        candidate = record { is_run = record { modules = made.modules; document = document; initial = made.own.is_init }; shape = good.shape };
        threads_are_runs = good.runs;
        execution_is_valid = good.valid;
      } in
      allowance run initial v (laws.alone mb (run_text run) m (over initial run) v permitted says)
]

-- one that isn't allowed is past the limit of bytes
pub only_large : (run : Record) (v : Verdict) → ((certificate : Certificate) → v ≡ Allowed certificate → ⊥) → IsOwnVerdict run v → (v ≡ Refused (refusal.Document TooLarge)) × (8388608 < length (run_text run))
only_large run (Allowed certificate) other own = absurd (other certificate refl)
only_large run (Refused reason) other own = (ap Refused own.0, own.1)
only_large run (Broken breach) other own = absurd own
