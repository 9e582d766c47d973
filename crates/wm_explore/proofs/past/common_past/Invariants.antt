use Rattle.std.proofs.Common.{◌≡◌, ℕ, ◌<◌, Some}
use Rattle.std.specs.Prelude.{slice_get}
use Rattle.wm_event.specs.declared.event.EventId.TheVariants.{Init, At}
use Rattle.wm_event.specs.declared.event.EventKey.{EventKey}
use Rattle.wm_explore.specs.Past.{FindsFor}
use Rattle.wm_explore.proofs.past.common_past.Given as goal

abbrev pub invariant-loop-place : goal.invariant-loop-place
invariant-loop-place l = record {
  init : FindsFor l.initial' l.state l.before l.next l.common Init;
  some : (i place : ℕ) (w : EventKey) → i < l.place-index → slice_get l.writing i ≡ Some place → slice_get l.state.arrived place ≡ Some w
      → FindsFor l.initial' l.state l.before l.next l.common (At w);
}
