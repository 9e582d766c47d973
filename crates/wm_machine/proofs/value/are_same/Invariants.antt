-- They are the same before the place.
use Rattle.std.proofs.Common.{◌≡◌, ℕ, ◌<◌}
use Rattle.std.specs.Prelude.{slice_get}
use Rattle.wm_machine.proofs.value.are_same.Given as goal

abbrev pub invariant-loop-place : goal.invariant-loop-place
invariant-loop-place l = record {
  same : (i : ℕ) → i < l.place → slice_get l.values i ≡ slice_get l.others i;
}
