use Rattle.std.proofs.Common.{◌≡◌, ℕ, ◌<◌, Some}
use Rattle.std.specs.Prelude.{◌≢◌, slice_get}
use Rattle.wm_explore.specs.Turns.{Rests}
use Rattle.wm_replay.specs.declared.continuing.Next.{Next}
use Rattle.wm_explore.proofs.turn.others_rest.Given as goal

abbrev pub invariant-loop-number : goal.invariant-loop-number
invariant-loop-number l = record {
  others : (i : ℕ) (next : Next) → i < l.number → i ≢ l.thread → slice_get l.nexts i ≡ Some next → Rests l.state i next;
}
