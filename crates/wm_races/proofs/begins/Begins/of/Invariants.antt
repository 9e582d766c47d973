use Rattle.std.proofs.Common.{◌≡◌, ◌<◌, ℕ, Some, IsTrue, slice_get}
use Rattle.wm_event.specs.declared.event.Event.{Event}
use Rattle.wm_event.specs.declared.event.EventKey.{EventKey}
use Rattle.wm_event.specs.Event.{writes}
use Rattle.wm_event.specs.Log.{event_in}
use Rattle.wm_races.specs.Window.{IsAmongBegins}
use Rattle.wm_races.proofs.begins.Begins.of.Given as goal

-- the first bytes of the writes so far
abbrev pub invariant-loop-key : goal.invariant-loop-key
invariant-loop-key l = (n : ℕ) (key : EventKey) (e : Event) → n < l.key-index → slice_get l.key-items n ≡ Some key → event_in l.candidate.log key ≡ Some e → IsTrue (writes e)
    → IsAmongBegins l.begins e.address
