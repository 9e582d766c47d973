-- There is no entry yet.
use Rattle.std.proofs.Common.{◌≡◌, ℕ, Some}
use Rattle.std.specs.Prelude.{Box, slice_get}
use Rattle.std.specs.declared.alloc.Global.{Global}
use Rattle.wm_explore.specs.declared.cache.Entry.{Entry}
use Rattle.wm_explore.proofs.cache.Cache.new.Given as goal

abbrev pub invariant-loop : goal.invariant-loop
invariant-loop l = record {
  none : (i : ℕ) (entry : Box Entry Global) → slice_get l.entries.items i ≡ Some (Some entry) → ⊥;
}
