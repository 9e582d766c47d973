-- Each thread before this one ends so.
use Rattle.std.proofs.Common.{◌≡◌, ℕ, ◌<◌, Some}
use Rattle.std.specs.Prelude.{slice_get}
use Rattle.wm_event.specs.declared.log.ThreadLog.{ThreadLog}
use Rattle.wm_replay.specs.declared.continuing.Next.{Next}
use Rattle.wm_replay.specs.declared.continuing.Next.TheVariants.{Ends}
use Rattle.wm_explore.proofs.search.end_so.Given as goal

abbrev pub invariant-loop-number : goal.invariant-loop-number
invariant-loop-number l = record {
  ends : (i : ℕ) (t : ThreadLog) (next : Next) → i < l.number → slice_get l.threads i ≡ Some t → slice_get l.nexts i ≡ Some next → next ≡ Ends t.end;
}
