use Rattle.std.proofs.Common.{◌≡◌, ◌∙◌, List, Some, ap, rules, slice_get, subst, sym}
use Rattle.std.proofs.lemmas.Bool.{both_ways}
use Rattle.std.proofs.lemmas.Option.{same_Some, slice_get-get_or}
use Rattle.wm_event.specs.declared.event.EventKey.{EventKey}
use Rattle.wm_event.specs.Event.{key_of}
use Rattle.wm_rules.specs.Others.{WritesBetween}
use Rattle.wm_rules.proofs.coherence.written_between_at.Goals as goal
use Rattle.wm_rules.proofs.coherence.written_between_at.Goals.{In-Some}

pub returns-then-not-is_after : goal.returns-then-not-is_after
returns-then-not-is_after c = λ v at h. both_ways c.is_after.result c.if-not-is_after.true ((c.is_after.ensures v at).1 h.after)

pub returns-then-not-before_at : goal.returns-then-not-before_at
returns-then-not-before_at c = λ v at h. both_ways c.before_at.result c.if-not-before_at.true ((c.before_at.ensures v (key_of c.args.event.now) at c.requires.end).1 h.before)

-- the event that the order lists at the place
listed : (c : In-Some) → slice_get c.args.relation.now.witness.order c.args.place ≡ Some c.in-Some.key.now
listed c =
    let order : c.as_slice-order.result.now ≡ c.args.relation.now.witness.order = search rules in
    let found = c.in-Some.ensures.lookup in
    subst (λ (keys : List EventKey). slice_get keys c.args.place ≡ Some c.in-Some.key.now) order (slice_get-get_or c.as_slice-order.result.now c.args.place c.in-Some.key.now found.3.0 ∙ ap Some (sym found.1))

pub returns-then-is_written_between : goal.returns-then-is_written_between
returns-then-is_written_between c = (listed (goal.at.returns-then-is_written_between c).In-Some, c.is_written_between.ensures.0 c.if-is_written_between.true)

pub returns-else-is_written_between : goal.returns-else-is_written_between
returns-else-is_written_between c = λ v at h.
    let same : v ≡ c.in-Some.key.now = same_Some v c.in-Some.key.now (sym at ∙ listed (goal.at.returns-else-is_written_between c).In-Some) in
    let between = WritesBetween c.args.relation.now c.args.event.now c.args.byte c.args.writer in
    both_ways c.is_written_between.result c.if-is_written_between.false (c.is_written_between.ensures.1 (subst (λ (u : EventKey). between u) same h))
