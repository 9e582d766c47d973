use Rattle.std.proofs.Common.{◌≡◌, ℕ, Option, Some, None, length}
use Rattle.std.specs.Prelude.{slice_get}
use Rattle.wm_sites.specs.declared.code_map.FunctionMap.{FunctionMap}
use Rattle.wm_sites.proofs.code_map.unread.Given as goal

abbrev pub invariant-loop-func : goal.invariant-loop-func
invariant-loop-func l = record {
  unread : (f : ℕ) (map : Option FunctionMap) → slice_get l.functions.items f ≡ Some map → map ≡ None;
  count : length l.functions.items ≡ l._func-index;
}
