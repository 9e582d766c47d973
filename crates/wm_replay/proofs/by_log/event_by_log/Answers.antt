use Rattle.std.proofs.Common.{◌≡◌, inl, inr, Some, refl, sym, subst, ◌∙◌}
use Rattle.std.proofs.lemmas.Option.{none-some, slice_get_past}
use Rattle.wm_machine.specs.State.{config_of, need_of}
use Rattle.wm_machine.specs.Step.{step, next_config}
use Rattle.wm_machine.specs.Stepping.{HasNoLocalStep}
use Rattle.wm_replay.proofs.Needs.{access_at, access_of_need, no_step_left, other_at}
use Rattle.wm_replay.proofs.by_log.event_by_log.Goals as goal

pub returns-in_default : goal.returns-in_default
returns-in_default c =
    let thread = c.args.thread.now in
    let need : need_of 0 thread ≡ c.next.result = sym (c.next.ensures 0) in record {
      made = (refl, inr (no_step_left thread c.next.result need (subst HasNoLocalStep need (c.requires 0)) c.in_default.not-Access));
      noted = refl;
      moves = refl;
      same = refl;
    }

pub returns-then-events-stated-clause-made : goal.returns-then-events-stated-clause-made
returns-then-events-stated-clause-made c = (
  refl,
  inl record {
    op = c.in-Access.op;
    asks = λ r. access_of_need c.args.thread.now r c.in-Access.op (sym (c.next.ensures r) ∙ c.in-Access.is);
    makes_not = λ e is. absurd (none-some e (sym (slice_get_past c.args.stated.now c.args.events c.if-events-stated.true) ∙ is));
  },
)

pub returns-then-not-makes_event-clause-made : goal.returns-then-not-makes_event-clause-made
returns-then-not-makes_event-clause-made c = (
  refl,
  inl record {
    op = c.in-Access.op;
    asks = λ r. access_of_need c.args.thread.now r c.in-Access.op (sym (c.next.ensures r) ∙ c.in-Access.is);
    makes_not = other_at c.in-Access.op c.args.stated.now c.args.events _ (c.if-not-makes_event.ensures.no refl);
  },
)

pub returns-in-Ok-clause-made : goal.returns-in-Ok-clause-made
returns-in-Ok-clause-made c =
    let m = c.args.thread.now.module in
    let old = config_of c.args.thread.now in
    let new = config_of c.advance.new.self in
    access_at m old new c.in-Access.op c.args.stated.now c.args.events _ c.if-events-stated.false (c.if-not-makes_event.ensures.yes refl)
    (λ r. access_of_need c.args.thread.now r c.in-Access.op (sym (c.next.ensures r) ∙ c.in-Access.is))
    (subst (λ r. next_config (step m r old) ≡ Some new) c.reply_of.ensures.value c.in-Ok.ensures.ok)
