use Rattle.std.proofs.Common.{◌≡◌, ℕ, ◌<◌, Some}
use Rattle.std.specs.Prelude.{slice_get}
use Rattle.wm_event.specs.declared.log.ThreadLog.{ThreadLog}
use Rattle.wm_explore.proofs.search.have_same_ends.Given as goal

abbrev pub invariant-loop-number : goal.invariant-loop-number
invariant-loop-number l = record {
  same : (i : ℕ) (t u : ThreadLog) → i < l.number → slice_get l.log i ≡ Some t → slice_get l.other i ≡ Some u → t.end ≡ u.end;
}
