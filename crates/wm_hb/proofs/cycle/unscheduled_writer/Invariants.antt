use Rattle.std.proofs.Common.{◌≡◌, ◌<◌, ℕ, Some, slice_get}
use Rattle.wm_event.specs.declared.event.EventKey.{EventKey}
use Rattle.wm_event.specs.declared.event.EventId.TheVariants.{At}
use Rattle.wm_event.specs.HappensBefore.{SynchronizesWith}
use Rattle.wm_event.specs.LoggedRun.{execution}
use Rattle.wm_event.specs.Witness.{writers_in}
use Rattle.wm_hb.specs.Cycle.{IsScheduled}
use Rattle.wm_hb.proofs.cycle.unscheduled_writer.Given as goal

-- the writers so far are scheduled, if they synchronize with the read
abbrev pub invariant-loop-writer : goal.invariant-loop-writer
invariant-loop-writer l = record {
  items : l.writer-items ≡ writers_in l.candidate.witness l.reader;
  scheduled : (k : ℕ) (w : EventKey) → k < l.writer-index → slice_get l.writer-items k ≡ Some (At w) → SynchronizesWith (execution l.candidate) w l.reader → IsScheduled l.scheduled w;
}
