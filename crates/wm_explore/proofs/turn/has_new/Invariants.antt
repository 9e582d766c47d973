use Rattle.std.proofs.Common.{◌≡◌, ℕ, ◌<◌, ◌≤◌, Some}
use Rattle.std.specs.Prelude.{slice_get}
use Rattle.wm_event.specs.declared.event.Event.{Event}
use Rattle.wm_event.specs.declared.event.EventKey.{EventKey}
use Rattle.wm_event.specs.Log.{event_in}
use Rattle.wm_explore.specs.Writing.{WritesNone}
use Rattle.wm_explore.proofs.turn.has_new.Given as goal

abbrev pub invariant-loop-place : goal.invariant-loop-place
invariant-loop-place l = record {
  none : (i : ℕ) (key : EventKey) (e : Event) → i < l.place → l.count ≤ i → slice_get l.state.arrived i ≡ Some key → event_in l.state.log key ≡ Some e → WritesNone l.op e;
}
