-- What was found of the events before the one that is next.
use Rattle.std.proofs.Common.{◌≡◌, ℕ, Some, length}
use Rattle.std.specs.Prelude.{slice_get}
use Rattle.wm_explore.specs.Standing.{IsRaised}
use Rattle.wm_explore.specs.declared.past.Past.{Past}
use Rattle.wm_explore.proofs.standing.all_raised.Given as goal

abbrev pub invariant-loop-past : goal.invariant-loop-past
invariant-loop-past l = record {
  count : length l.all.items ≡ l.past-index;
  each : (i : ℕ) (p q : Past) → slice_get l.pasts i ≡ Some p → slice_get l.all.items i ≡ Some q → IsRaised l.keys l.order p q;
}
