use Rattle.std.proofs.Common.{◌≡◌, ℕ, ◌<◌, true, Some}
use Rattle.std.specs.Prelude.{slice_get}
use Rattle.wm_explore.specs.declared.values.Part.{Part}
use Rattle.wm_explore.specs.Values.{Has}
use Rattle.wm_explore.proofs.values.new_values.Given as goal

abbrev pub invariant-loop-part : goal.invariant-loop-part
invariant-loop-part l = record {
  kept : (i : ℕ) (p : Part) → i < l.part-index → slice_get l.parts i ≡ Some p → p.is_new ≡ true → Has l.values p.value;
}
