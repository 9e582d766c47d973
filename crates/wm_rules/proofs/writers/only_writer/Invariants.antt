use Rattle.std.proofs.Common.{◌≡◌, ℕ, ◌<◌, Some, slice_get}
use Rattle.wm_event.specs.declared.event.EventId.{EventId}
use Rattle.wm_rules.proofs.writers.only_writer.Given as goal

-- the writers so far are the first one
abbrev pub invariant-loop-writer : goal.invariant-loop-writer
invariant-loop-writer l = (j : ℕ) (v : EventId) → j < l.writer-index → slice_get l.writers j ≡ Some v → v ≡ l.first
