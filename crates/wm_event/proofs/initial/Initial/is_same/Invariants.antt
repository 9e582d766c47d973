use Rattle.std.proofs.Common.{◌≡◌, ℕ, ◌<◌}
use Rattle.std.specs.List.{slice_get}
use Rattle.wm_event.proofs.initial.Initial.is_same.Given as goal

abbrev pub invariant-loop-address : goal.invariant-loop-address
invariant-loop-address l = (k : ℕ) → k < l.address → slice_get l.self k ≡ slice_get l.other k
