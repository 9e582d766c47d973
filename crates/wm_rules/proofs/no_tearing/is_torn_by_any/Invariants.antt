use Rattle.std.proofs.Common.{◌≡◌, ℕ, ◌<◌, Some, slice_get}
use Rattle.wm_event.specs.declared.event.EventId.{EventId}
use Rattle.wm_event.specs.Event.{key_of}
use Rattle.wm_event.specs.Faults.{BreaksNoTearing}
use Rattle.wm_event.specs.LoggedRun.{execution}
use Rattle.wm_event.specs.Witness.{writers_in}
use Rattle.wm_rules.proofs.no_tearing.is_torn_by_any.Given as goal

-- none of the writers so far tears it
abbrev pub invariant-loop-other : goal.invariant-loop-other
invariant-loop-other l = record {
  items : l.other-items ≡ writers_in l.candidate.witness (key_of l.event);
  none : (j : ℕ) (v : EventId) → j < l.other-index → slice_get l.other-items j ≡ Some v → BreaksNoTearing (execution l.candidate) (key_of l.event) l.event l.byte l.writer v → ⊥;
}
