use Rattle.std.proofs.Common.{◌≡◌, ◌+◌, ◌∙◌, IsSome, List, None, Option, Some, ap, rules, slice_get, subst, sym}
use Rattle.std.proofs.lemmas.Option.{same_Some, slice_get-get_or, slice_get_past}
use Rattle.std.specs.Option.{option_and_then}
use Rattle.wm_event.specs.declared.event.Event.{Event}
use Rattle.wm_event.specs.declared.event.EventKey.{EventKey}
use Rattle.wm_event.specs.declared.event.EventId.TheVariants.{At}
use Rattle.wm_event.specs.Event.{byte_written}
use Rattle.wm_event.specs.Execution.{event_at}
use Rattle.wm_event.specs.LoggedRun.{execution}
use Rattle.wm_rules.proofs.near.overlaps.Goals as goal
use Rattle.wm_rules.proofs.near.overlaps.Goals.{In-Some}

-- the event that the order lists at the place
listed : (c : In-Some) → slice_get c.args.candidate.now.witness.order c.args.place ≡ Some c.in-Some.key.now
listed c =
    let order : c.as_slice-order.result.now ≡ c.args.candidate.now.witness.order = search rules in
    let found = c.in-Some.ensures.lookup in
    subst (λ (keys : List EventKey). slice_get keys c.args.place ≡ Some c.in-Some.key.now) order (slice_get-get_or c.as_slice-order.result.now c.args.place c.in-Some.key.now found.3.0 ∙ ap Some (sym found.1))

-- what the event with this name says of an event that the order lists there too
event_there : (c : In-Some) (v : EventKey) → slice_get c.args.candidate.now.witness.order c.args.place ≡ Some v → event_at (execution c.args.candidate.now) (At v) ≡ event_at (execution c.args.candidate.now) (At c.in-Some.key.now)
event_there c v at = ap (λ (u : EventKey). event_at (execution c.args.candidate.now) (At u)) (same_Some v c.in-Some.key.now (sym at ∙ listed c))

pub returns-in_default : goal.returns-in_default
returns-in_default c = λ v at k less some.
    let order : c.as_slice-order.result.now ≡ c.args.candidate.now.witness.order = search rules in
    let past : slice_get c.args.candidate.now.witness.order c.args.place ≡ None =
    subst (λ (keys : List EventKey). slice_get keys c.args.place ≡ None) order (slice_get_past c.as_slice-order.result.now c.args.place c.in_default.ensures.lookup.3) in
    absurd (cc)

pub returns-in-None : goal.returns-in-None
returns-in-None c = λ v at k less some.
    let x = execution c.args.candidate.now in
    let missing : event_at x (At c.in-Some.key.now) ≡ None = search rules in
    let none = subst (λ (o : Option Event). IsSome (option_and_then (λ e. byte_written e (c.args.event.now.address + k)) o)) (event_there (goal.at.returns-in-None c).In-Some v at ∙ missing) some in
    absurd (cc)

pub returns-in-Some-event : goal.returns-in-Some-event
returns-in-Some-event c = λ v at k less some.
    let x = execution c.args.candidate.now in
    let found : event_at x (At c.in-Some.key.now) ≡ Some c.in-Some-event.other.now = search rules in
    c.writes_into.ensures k less
    (subst (λ (o : Option Event). IsSome (option_and_then (λ e. byte_written e (c.args.event.now.address + k)) o)) (event_there (goal.at.returns-in-Some-event c).In-Some v at ∙ found) some)
