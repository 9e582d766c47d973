use Rattle.std.proofs.Common.{◌≡◌, ℕ, ◌<◌, Some}
use Rattle.std.specs.Prelude.{slice_get}
use Rattle.wm_explore.specs.declared.values.Part.{Part}
use Rattle.wm_explore.specs.Values.{Has, joined}
use Rattle.wm_explore.proofs.values.widened.Given as goal

abbrev pub invariant-loop-part : goal.invariant-loop-part
invariant-loop-part l = record {
  before : (i : ℕ) (p q : Part) → i < l.part-index → slice_get l.parts i ≡ Some p → Has l.offers q → Has l.wide (joined p q);
}

abbrev pub invariant-loop-offer : goal.invariant-loop-offer
invariant-loop-offer l = record {
  before : (i : ℕ) (p q : Part) → i < l.part-index → slice_get l.parts i ≡ Some p → Has l.offers q → Has l.wide (joined p q);
  here : (j : ℕ) (q : Part) → j < l.offer-index → slice_get l.offers j ≡ Some q → Has l.wide (joined l.part q);
}
