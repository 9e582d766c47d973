use Rattle.std.proofs.Common.{◌≡◌, ℕ, ◌<◌, Some, None}
use Rattle.std.specs.Prelude.{slice_get}
use Rattle.wm_explore.specs.declared.bound.Bound.{Bound}
use Rattle.wm_explore.specs.Turns.{bound_at}
use Rattle.wm_replay.specs.declared.continuing.Next.{Next}
use Rattle.wm_explore.proofs.turn.met_bound.Given as goal

abbrev pub invariant-loop-number : goal.invariant-loop-number
invariant-loop-number l = record {
  none : l.met ≡ None → (i : ℕ) (next : Next) → i < l.number → slice_get l.nexts i ≡ Some next → bound_at l.state.log i next l.events ≡ None;
  some : (bound : Bound) → l.met ≡ Some bound → (k : ℕ) × (next : Next) × (slice_get l.nexts k ≡ Some next) × (bound_at l.state.log k next l.events ≡ Some bound);
}
