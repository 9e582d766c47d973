-- The events that were passed write nothing, if they are of the stretch.
use Rattle.std.proofs.Common.{◌≡◌, ℕ, ◌<◌, ◌≤◌, false, Some}
use Rattle.std.specs.Prelude.{slice_get}
use Rattle.wm_event.specs.Event.{writes}
use Rattle.wm_event.specs.declared.event.Event.{Event}
use Rattle.wm_explore.proofs.idle.only_read.Given as goal

abbrev pub invariant-loop-number : goal.invariant-loop-number
invariant-loop-number l = record {
  read : (j : ℕ) (e : Event) → j < l.number → slice_get l.events j ≡ Some e → l.stretch.first ≤ j → j < l.stretch.end → writes e ≡ false;
}
