use Rattle.std.proofs.Common.{◌≡◌, ℕ, ◌<◌, Some}
use Rattle.std.specs.Prelude.{slice_get}
use Rattle.wm_event.specs.declared.log.End.{End}
use Rattle.wm_replay.specs.declared.continuing.Next.{Next}
use Rattle.wm_replay.specs.declared.continuing.Next.TheVariants.{Ends}
use Rattle.wm_explore.proofs.turn.each_ends.Given as goal

abbrev pub invariant-loop-next : goal.invariant-loop-next
invariant-loop-next l = record {
  ends : (i : ℕ) (next : Next) → i < l.next-index → slice_get l.nexts i ≡ Some next → (end : End) × (next ≡ Ends end);
}
