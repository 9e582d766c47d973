use Rattle.std.proofs.Common.{ℕ, ◌<◌, get_or}
use Rattle.wm_valid.specs.Implements.{IsLabel}
use Rattle.wm_valid.proofs.labels.Labels.check.Given as goal

abbrev pub invariant-loop-label : goal.invariant-loop-label
invariant-loop-label l = (i : ℕ) → i < l.label-index → IsLabel l.self (get_or l.labels i 0)
