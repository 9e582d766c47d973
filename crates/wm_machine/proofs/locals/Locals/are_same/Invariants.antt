-- The locals before the index are the same.
use Rattle.std.proofs.Common.{◌≡◌, ℕ, ◌<◌}
use Rattle.std.specs.Prelude.{slice_get}
use Rattle.wm_machine.proofs.locals.Locals.are_same.Given as goal

abbrev pub invariant-loop-index : goal.invariant-loop-index
invariant-loop-index l = record {
  same : (i : ℕ) → i < l.index → slice_get l.self i ≡ slice_get l.other i;
}
