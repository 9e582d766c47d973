use Rattle.std.proofs.Common.{◌<◌, ◌⊎◌, ℕ, get_or}
use Rattle.wm_explore.proofs.clock.Clock.joined.Given as goal

abbrev pub invariant-loop-lane : goal.invariant-loop-lane
invariant-loop-lane l = (s m : ℕ) → m < get_or l.per_thread s 0 → (m < get_or l.self.per_thread s 0) ⊎ (m < get_or l.other.per_thread s 0)
