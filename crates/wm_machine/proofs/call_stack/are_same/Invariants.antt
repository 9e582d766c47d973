-- They are the same before the place.
use Rattle.std.proofs.Common.{◌≡◌, ℕ, ◌<◌, map}
use Rattle.std.specs.Prelude.{box_value, slice_get}
use Rattle.wm_machine.proofs.call_stack.are_same.Given as goal

abbrev pub invariant-loop-place : goal.invariant-loop-place
invariant-loop-place l = record {
  same : (i : ℕ) → i < l.place → slice_get (map box_value l.calls) i ≡ slice_get (map box_value l.others) i;
}
