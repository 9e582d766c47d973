-- The bytes before the one that is next are not from the source.
use Rattle.std.proofs.Common.{ℕ, ◌<◌}
use Rattle.wm_explore.specs.Past.{CannotTake}
use Rattle.wm_explore.proofs.past.can_take_any.Given as goal

abbrev pub invariant-loop-byte : goal.invariant-loop-byte
invariant-loop-byte l = record {
  none : (k : ℕ) → k < l.byte → CannotTake l.initial' l.state l.before l.next k l.source;
}
