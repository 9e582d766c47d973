use Rattle.std.proofs.Common.{◌≡◌, ℕ, ◌<◌, Some}
use Rattle.std.specs.Prelude.{◌≢◌, slice_get}
use Rattle.wm_explore.specs.declared.exploration.Finished.{Finished}
use Rattle.wm_explore.specs.Executions.{ends_of}
use Rattle.wm_explore.proofs.search.is_listed.Given as goal

abbrev pub invariant-loop-other : goal.invariant-loop-other
invariant-loop-other l = record {
  others : (i : ℕ) (f : Finished) → i < l.other-index → slice_get l.finished i ≡ Some f → ends_of f.log ≢ ends_of l.log;
}
