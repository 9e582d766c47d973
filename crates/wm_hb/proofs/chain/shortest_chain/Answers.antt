use Rattle.std.proofs.Common.{subst, sym, ◌∙◌}
use Rattle.wm_event.specs.declared.event.EventId.TheVariants.{Init, At}
use Rattle.wm_event.specs.HappensBefore.{HappensBefore}
use Rattle.wm_event.specs.LoggedRun.{execution}
use Rattle.wm_hb.proofs.ChainLaws.{absent, never_init}
use Rattle.wm_hb.proofs.chain.shortest_chain.Goals as goal

pub returns-in_default : goal.returns-in_default
returns-in_default c h =
    let x = c.args.candidate.now in
    let g : HappensBefore (execution x) c.args.from Init = subst (HappensBefore (execution x) c.args.from) c.in_default.is h in
    never_init x g.0 c.args.from g.1

pub returns-then-is_none : goal.returns-then-is_none
returns-then-is_none c h =
    let x = c.args.candidate.now in
    let g : HappensBefore (execution x) c.args.from (At c.in-At.end) = subst (HappensBefore (execution x) c.args.from) c.in-At.is h in
    absent x c.args.from c.in-At.end (sym c.if-is_none.ensures ∙ c.place.ensures.there) g
