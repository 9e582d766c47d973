use Rattle.std.proofs.Common.{◌≡◌, ◌∙◌, ◌++◌, ◌∷◌, [], IsSome, List, None, Option, ap, append_assoc, arith, get_or, refl, reverse, subst, sym}
use Rattle.std.proofs.lemmas.Grind.{common_steps}
use Rattle.wm_event.specs.declared.event.Event.{Event}
use Rattle.wm_event.specs.declared.event.EventId.TheVariants.{At}
use Rattle.wm_event.specs.declared.event.EventKey.{EventKey}
use Rattle.wm_event.specs.HappensBefore.{SequencedBefore}
use Rattle.wm_event.specs.LoggedRun.{execution}
use Rattle.wm_hb.specs.Chain.{Leads}
use Rattle.wm_hb.specs.Cycle.{next_key}
use Rattle.wm_hb.specs.declared.chain.Link.{Link}
use Rattle.wm_hb.specs.declared.chain.LinkKind.TheVariants.{Sequenced, Synchronizes}
use Rattle.wm_hb.proofs.CycleLaws.{earlier-there}
use Rattle.wm_hb.proofs.cycle.go_back.Goals as goal

-- what is there isn't missing
not-both : (o : Option Event) → IsSome o → o ≡ None → ⊥
not-both o some none = absurd (cc)

-- the writer is there, and so is the first event of its thread that isn't scheduled
pub unreachable-requires-in_default-next_event : goal.unreachable-requires-in_default-next_event
unreachable-requires-in_default-next_event c =
    let writer = c.in-Some.writer in
    let found = c.in-Some.ensures in
    let there = earlier-there c.args.candidate.now.log writer (get_or c.args.scheduled.now writer.thread 0) (subst (λ o. IsSome o) (sym found.0.is_writer) refl) found.1 in
    not-both _ there c.in_default-next_event.ensures

-- the writer isn't the first event of its thread that isn't scheduled, so it stands behind that one
pub returns-in_ok-push-2-clause-links : goal.returns-in_ok-push-2-clause-links
returns-in_ok-push-2-clause-links c =
    let x = execution c.args.candidate.now in
    let writer = c.in-Some.writer in
    let before = c.in-Some-next_event.before in
    let found = c.in-Some.ensures in
    let next = c.in-Some-next_event.ensures in
    let link : Link = record { kind = Synchronizes; event = c.args.event } in
    let step : Link = record { kind = Sequenced; event = writer } in
    let thread : before.thread ≡ writer.thread = ap (λ (k : EventKey). k.thread) next.0 in
    let number : before.number ≡ get_or c.args.scheduled.now writer.thread 0 = ap (λ (k : EventKey). k.number) next.0 in
    let sequenced : SequencedBefore x before writer = record {
      first = next.1;
      second = subst (λ o. IsSome o) (sym found.0.is_writer) refl;
      same_thread = thread;
      earlier = grind (arith, common_steps);
    } in
    let leads : Leads x (At before) (reverse (link ∷ step ∷ [])) (At c.args.event) = (sequenced, (found.0, refl)) in
    let items = c.in_ok-push-2.ensures.items ∙ ap (λ (links : List Link). links ++ step ∷ []) c.in_ok-push.ensures.items ∙ append_assoc c.args.backwards.now.items (link ∷ []) (step ∷ []) in
    (link ∷ step ∷ [], items, omega arith, leads)

pub returns-in_ok-push-2-clause-next : goal.returns-in_ok-push-2-clause-next
returns-in_ok-push-2-clause-next c =
    let next = c.in-Some-next_event.ensures in
    (next.0 ∙ ap (λ t. next_key c.args.scheduled.now t) (sym (ap (λ (k : EventKey). k.thread) next.0)), next.1)
