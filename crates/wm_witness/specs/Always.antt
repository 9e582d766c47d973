-- What the valid runs of a log have in common, whatever their witnesses.
use Rattle.std.specs.Prelude.{List}
use Rattle.wm_event.specs.declared.witness.Witness.{Witness}
use Rattle.wm_event.specs.LoggedRun.{LoggedRun, execution}
use Rattle.wm_event.specs.Rules.{IsValid}
use Rattle.wm_event.specs.Shape.{IsWellShaped}
use Rattle.wm_writers.specs.Forced.{with_witness}
use Rattle.wm_witness.specs.declared.assumption.Assumption.{Assumption}
use Rattle.wm_witness.specs.Assumptions.{Keeps}

-- the log is valid with this witness
abbrev pub IsValidWith : LoggedRun → Witness → Type 0
IsValidWith run witness = IsWellShaped (with_witness run witness) × IsValid (execution (with_witness run witness))

-- P holds of the log with each witness that makes it valid and keeps the assumptions
abbrev pub Always : LoggedRun → List Assumption → (LoggedRun → Type 0) → Type 0
Always run assumed P = (witness : Witness) → IsWellShaped (with_witness run witness) → IsValid (execution (with_witness run witness))
    → Keeps (with_witness run witness) assumed → P (with_witness run witness)

-- no witness that makes the log valid keeps the assumptions
abbrev pub IsClosed : LoggedRun → List Assumption → Type 0
IsClosed run assumed = Always run assumed (λ _. ⊥)
