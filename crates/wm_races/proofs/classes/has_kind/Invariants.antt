use Rattle.std.proofs.Common.{◌≡◌, ◌<◌, ℕ, Some, slice_get}
use Rattle.wm_races.proofs.classes.has_kind.Given as goal

-- none so far is the kind
abbrev pub invariant-loop-other : goal.invariant-loop-other
invariant-loop-other l = (n : ℕ) → n < l.other-index → slice_get l.kinds n ≡ Some l.kind → ⊥
