use Rattle.std.proofs.Common.{drop}
use Rattle.wm_event.specs.declared.event.EventId.{EventId as Id}
use Rattle.wm_event.specs.LoggedRun.{LoggedRun, execution}
use Rattle.wm_hb.specs.Chain.{Leads}
use Rattle.wm_explain.specs.Parts.{AllHold}
use Rattle.wm_explain.proofs.rule.add_links.Given as goal

abbrev pub invariant-loop-link : goal.invariant-loop-link
invariant-loop-link l = (run : LoggedRun) (to : Id) → Leads (execution run) l.initial.last l.links to
    → Leads (execution run) l.last (drop l.link-index l.links) to × (AllHold run l.initial.parts.items → AllHold run l.parts.items)
