use Rattle.std.proofs.Common.{◌≡◌, Some, slice_get, rules, arith}
use Rattle.std.proofs.lemmas.Bool.{both_ways}
use Rattle.wm_event.specs.declared.event.EventId.TheVariants.{At}
use Rattle.wm_event.specs.Event.{key_of}
use Rattle.wm_event.specs.LoggedRun.{execution}
use Rattle.wm_event.specs.Rules.{KeepsOrder}
use Rattle.wm_event.specs.Shape.{IsWellShaped, ListsEachOnce}
use Rattle.wm_rules.specs.Between.{IsPlaceOf}
use Rattle.wm_rules.proofs.NearLemmas.{byte_inside, incoherent_says, no_future, stands_after, stands_earlier}
use Rattle.wm_hb.proofs.SequenceLemmas.{before_join}
use Rattle.wm_rules.proofs.coherence.may_be_incoherent.Goals as goal

pub returns-then-not-is_after : goal.returns-then-not-is_after
returns-then-not-is_after c = λ k case other from breaks.
    let run = c.args.relation.now in
    let r = key_of c.args.event.now in
    let once : ListsEachOnce run.log run.witness.order = search rules in
    let agrees : KeepsOrder (execution run) = search rules in
    let is : IsPlaceOf run.witness.order c.place-start.result c.args.writer = search rules in
    let at : slice_get run.witness.order c.in-Some.end ≡ Some r = search rules in
    let says = incoherent_says run r c.args.event.now k c.args.writer case other breaks (no_future run once agrees r c.args.writer c.place-start.result c.in-Some.end is at c.in-Some-place_after.ensures.0) in
    absurd (both_ways c.is_after.result (search rules) ((c.is_after.ensures r at).1 (before_join (execution run) c.args.writer (At says.0) (At r) says.2.after says.2.before)))

pub returns-else-end-first-gt-NEAR : goal.returns-else-end-first-gt-NEAR
returns-else-end-first-gt-NEAR c = λ k case other from breaks.
    let run = c.args.relation.now in
    let r = key_of c.args.event.now in
    let once : ListsEachOnce run.log run.witness.order = search rules in
    let agrees : KeepsOrder (execution run) = search rules in
    let shape : IsWellShaped run = search rules in
    let is : IsPlaceOf run.witness.order c.place-start.result c.args.writer = search rules in
    let at : slice_get run.witness.order c.in-Some.end ≡ Some r = search rules in
    let says = incoherent_says run r c.args.event.now k c.args.writer case other breaks (no_future run once agrees r c.args.writer c.place-start.result c.in-Some.end is at c.in-Some-place_after.ensures.0) in
    let listed = once.listed says.0 says.1 in
    let after = stands_after run once c.args.writer c.place-start.result listed.0 says.0 is listed.1 (agrees c.args.writer (At says.0) says.2.after) in
    let before = stands_earlier run once r says.0 c.in-Some.end listed.0 at listed.1 (agrees (At says.0) (At r) says.2.before) in
    let first = c.in-Some-place_after.ensures.1 in
    c.is_any_between.ensures listed.0 (omega (arith, after, first)) before says.0 listed.1 k (byte_inside run shape c.args.event.now k c.args.writer c.requires.listed from) says.2
