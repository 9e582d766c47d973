-- No byte is from the new events before the one that is next.
use Rattle.std.proofs.Common.{◌≡◌, ℕ, ◌<◌, ◌≤◌, Some}
use Rattle.std.specs.Prelude.{slice_get}
use Rattle.wm_event.specs.declared.event.EventId.TheVariants.{At}
use Rattle.wm_event.specs.declared.event.EventKey.{EventKey}
use Rattle.wm_explore.specs.Past.{TakesNothing}
use Rattle.wm_explore.proofs.past.can_take_new.Given as goal

abbrev pub invariant-loop-place : goal.invariant-loop-place
invariant-loop-place l = record {
  none : (i place : ℕ) (w : EventKey) → i < l.place-index → slice_get l.writing i ≡ Some place → l.count ≤ place → slice_get l.state.arrived place ≡ Some w
      → TakesNothing l.initial' l.state l.before l.next (At w);
}
