use Rattle.std.proofs.Common.{◌≡◌, ℕ, ◌<◌, get_or}
use Rattle.wm_event.specs.declared.event.Event.{Event}
use Rattle.wm_explore.proofs.cache.same_events.Given as goal

abbrev pub invariant-loop-index : goal.invariant-loop-index
invariant-loop-index l = record { same : (k : ℕ) (d : Event) → k < l.index → get_or l.events k d ≡ get_or l.others k d }
