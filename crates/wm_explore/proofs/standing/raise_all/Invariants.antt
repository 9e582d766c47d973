-- The events before this place are raised, and the others are as they were.
use Rattle.std.proofs.Common.{◌≡◌, ℕ, ◌<◌, ◌≤◌, Some, length}
use Rattle.std.specs.Prelude.{slice_get}
use Rattle.wm_explore.specs.Standing.{IsRaised}
use Rattle.wm_explore.specs.declared.past.Past.{Past}
use Rattle.wm_explore.proofs.standing.raise_all.Given as goal

abbrev pub invariant-loop-place : goal.invariant-loop-place
invariant-loop-place l = record {
  count : length l.pasts ≡ length l.fn.pasts;
  each : (i : ℕ) (p q : Past) → i < l.place → slice_get l.fn.pasts i ≡ Some p → slice_get l.pasts i ≡ Some q → IsRaised l.keys l.order p q;
  rest : (i : ℕ) → l.place ≤ i → slice_get l.pasts i ≡ slice_get l.fn.pasts i;
}
