use Rattle.std.proofs.Common.{◌<◌, Some, inl, inr, sym, subst, ◌∙◌}
use Rattle.std.specs.Prelude.{◌⊎◌}
use Rattle.wm_event.specs.Event.{key_of}
use Rattle.wm_event.specs.Execution.{place}
use Rattle.wm_event.specs.HappensBefore.{HappensBefore}
use Rattle.wm_event.specs.LoggedRun.{execution}
use Rattle.wm_event.specs.declared.event.EventId.TheVariants.{At}
use Rattle.wm_explore.specs.Clocks.{Counts}
use Rattle.wm_explore.specs.Past.{FindsCommon, IsAhead, IsBefore, IsThreadPast}
use Rattle.wm_explore.specs.declared.past.Past.{Past}
use Rattle.wm_explore.proofs.PastLaw.{CountsToo, breaks_mark, common_ahead, common_before, common_from, finds_none, own_order, own_past, thread_order, thread_past}
use Rattle.wm_explore.proofs.past.past_of.Goals as goal

pub returns-then-not-can_keep_mark : goal.returns-then-not-can_keep_mark
returns-then-not-can_keep_mark c knows x takes =
    let s = c.args.state.now in
    let e = c.args.next.now in
    let before = c.before_next-before.result in
    let past = subst (λ b. IsThreadPast s b before) c.key-2.ensures c.before_next-before.ensures in
    breaks_mark c.args.initial.now s e knows x takes before.clock (thread_past c.args.initial.now s e knows x takes before past) (sym c.reads.ensures ∙ c.if-not-reads.false)
    (c.can_keep_mark.ensures c.if-not-can_keep_mark.true)

pub returns-in-None : goal.returns-in-None
returns-in-None c knows x takes _ =
    let s = c.args.state.now in
    let e = c.args.next.now in
    let before = c.before_next-before.result in
    let past = subst (λ b. IsThreadPast s b before) c.key-2.ensures c.before_next-before.ensures in
    finds_none c.args.initial.now s e knows x takes before (thread_past c.args.initial.now s e knows x takes before past) (thread_order c.args.initial.now s e knows x takes before past) (sym c.reads.ensures ∙ c.if-not-reads.false)
    (subst (FindsCommon c.args.initial.now s before e) c.in-None.is c.common_past.ensures)

pub returns-in-Some : goal.returns-in-Some
returns-in-Some c knows x takes = (
  own_past c.args.initial.now c.args.state.now c.args.next.now knows x takes c.joined.result c.with.result joined (subst (CountsToo c.with.result c.joined.result) c.key-in-Some.ensures c.with.ensures),
  own_order c.args.initial.now c.args.state.now c.args.next.now knows x takes c.joined-in-Some.result c.with-in-Some.result ahead (subst (CountsToo c.with-in-Some.result c.joined-in-Some.result) c.key-in-Some-2.ensures c.with-in-Some.ensures),
  common_from c.args.initial.now c.args.state.now c.args.next.now knows x takes before past order (sym c.reads.ensures ∙ c.if-not-reads.false) c.in-Some.common finds,
)
  where
    before : Past
    before = c.before_next-before.result

    is : IsThreadPast c.args.state.now (key_of c.args.next.now) before
    is = subst (λ b. IsThreadPast c.args.state.now b before) c.key-2.ensures c.before_next-before.ensures

    past : IsBefore x (key_of c.args.next.now) before.clock
    past = thread_past c.args.initial.now c.args.state.now c.args.next.now knows x takes before is

    order : IsAhead x (key_of c.args.next.now) before.order
    order = thread_order c.args.initial.now c.args.state.now c.args.next.now knows x takes before is

    finds : FindsCommon c.args.initial.now c.args.state.now before c.args.next.now (Some c.in-Some.common)
    finds = subst (FindsCommon c.args.initial.now c.args.state.now before c.args.next.now) c.in-Some.is c.common_past.ensures

    joined : IsBefore x (key_of c.args.next.now) c.joined.result
    joined a counts there = by (c.joined.ensures a counts)
      where
        by : Counts before.clock a ⊎ Counts c.in-Some.common.clock a → HappensBefore (execution x) (At a) (At (key_of c.args.next.now))
        by (inl own) = past a own there
        by (inr common) =
            common_before c.args.initial.now c.args.state.now c.args.next.now knows x takes before past order (sym c.reads.ensures ∙ c.if-not-reads.false) c.in-Some.common finds a common there

    ahead : IsAhead x (key_of c.args.next.now) c.joined-in-Some.result
    ahead a counts there = by (c.joined-in-Some.ensures a counts)
      where
        by : Counts before.order a ⊎ Counts c.in-Some.common.order a → place (execution x) (At a) < place (execution x) (At (key_of c.args.next.now))
        by (inl own) = order a own there
        by (inr common) =
            common_ahead c.args.initial.now c.args.state.now c.args.next.now knows x takes before past order (sym c.reads.ensures ∙ c.if-not-reads.false) c.in-Some.common finds a common there
