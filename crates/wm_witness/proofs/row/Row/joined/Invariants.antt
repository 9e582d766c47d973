use Rattle.std.proofs.Common.{◌<◌, ◌⊎◌, ℕ, get_or}
use Rattle.wm_witness.proofs.row.Row.joined.Given as goal

abbrev pub invariant-loop-lane : goal.invariant-loop-lane
invariant-loop-lane l = (s m : ℕ) → m < get_or l.before s 0 → (m < get_or l.self.before s 0) ⊎ (m < get_or l.other.before s 0)
