use Rattle.std.proofs.Common.{◌≡◌, ◌↔◌, true, false, Bool, Some, None, max, slice_get, IsTrue, sym, ap, subst, ◌∙◌, rules}
use Rattle.std.proofs.lemmas.Bool.{false≢true}
use Rattle.std.proofs.lemmas.Option.{same_Some}
use Rattle.wm_event.specs.declared.event.Event.{Event}
use Rattle.wm_event.specs.declared.event.EventKey.{EventKey}
use Rattle.wm_event.specs.Event.{key_of}
use Rattle.wm_event.specs.Log.{event_in}
use Rattle.wm_event.specs.LoggedRun.{execution}
use Rattle.wm_event.specs.Shape.{ListsEachOnce}
use Rattle.wm_event.specs.Writes.{writes_byte}
use Rattle.wm_races.specs.Listing.{IsNamed, IsPairAt}
use Rattle.wm_races.specs.Races.{IsUnordered, IsWeak}
use Rattle.wm_races.proofs.ListLemmas.{none_some}
use Rattle.wm_races.proofs.RaceLemmas.{Meets, met-pair, pair-met}
use Rattle.wm_races.proofs.pair.pair_at.Goals as goal
use Rattle.wm_races.proofs.pair.pair_at.Goals.{else-address-first-via-then-address-first+then-is_weak+else-is_unordered, else-address-first-via-then-address-first+else-is_weak, else-address-first-via-else-address-first}

-- a test that failed, of what holds
failed : (b : Bool) (P : Type 0) → (IsTrue b ↔ P) → b ≡ false → P → ⊥
failed b P test is p = false≢true (sym is ∙ test.1 p)

pub returns-then-not-is_named : goal.returns-then-not-is_named
returns-then-not-is_named c p at =
    let run = c.args.before.now in
    let once : ListsEachOnce run.log run.witness.order = search rules in
    let m = pair-met run once c.args.event.now c.args.place c.args.address c.args.other c.requires.listed c.requires.place p at in
    failed c.is_named.result (IsNamed c.args.event.now c.args.place c.args.other) c.is_named.ensures c.if-not-is_named.true m.meets.named

pub returns-in_default : goal.returns-in_default
returns-in_default c p at =
    let run = c.args.before.now in
    let once : ListsEachOnce run.log run.witness.order = search rules in
    let m = pair-met run once c.args.event.now c.args.place c.args.address c.args.other c.requires.listed c.requires.place p at in
    let gone : slice_get run.witness.order c.args.other ≡ None = search rules in
    none_some (slice_get run.witness.order c.args.other) p.write gone m.at

pub returns-in_default-event : goal.returns-in_default-event
returns-in_default-event c p at =
    let run = c.args.before.now in
    let once : ListsEachOnce run.log run.witness.order = search rules in
    let m = pair-met run once c.args.event.now c.args.place c.args.address c.args.other c.requires.listed c.requires.place p at in
    let at_w : slice_get run.witness.order c.args.other ≡ Some c.in-Some.key = search rules in
    let same : c.in-Some.key ≡ p.write = same_Some c.in-Some.key p.write (sym at_w ∙ m.at) in
    let gone : event_in run.log c.in-Some.key ≡ None = search rules in
    none_some (event_in run.log p.write) m.write (ap (event_in run.log) (sym same) ∙ gone) m.there

pub returns-else-address-first : goal.returns-else-address-first
returns-else-address-first c p at =
    let run = c.args.before.now in
    let once : ListsEachOnce run.log run.witness.order = search rules in
    let m = pair-met run once c.args.event.now c.args.place c.args.address c.args.other c.requires.listed c.requires.place p at in
    let at_w : slice_get run.witness.order c.args.other ≡ Some c.in-Some.key = search rules in
    let same : c.in-Some.key ≡ p.write = same_Some c.in-Some.key p.write (sym at_w ∙ m.at) in
    let there : event_in run.log c.in-Some.key ≡ Some c.in-Some-event.write.now = search rules in
    let is : c.in-Some-event.write.now ≡ m.write = same_Some c.in-Some-event.write.now m.write (sym there ∙ ap (event_in run.log) same ∙ m.there) in
    let first : c.args.address ≡ max c.args.event.now.address c.in-Some-event.write.now.address = m.meets.first ∙ ap (λ (w : Event). max c.args.event.now.address w.address) (sym is) in
    let made : max c.args.event.now.address c.in-Some-event.write.now.address ≡ c.from-first.result = search rules in
    elim c.else-address-first.branch [
      | else-address-first-via-then-address-first+then-is_weak+else-is_unordered w ↦
          failed w.is_unordered.result (IsUnordered (execution run) (key_of c.args.event.now) p.write) (w.is_unordered.ensures (key_of c.args.event.now) p.write c.requires.place m.at) w.if-is_unordered.false m.meets.unordered
      | else-address-first-via-then-address-first+else-is_weak w ↦
          failed w.is_weak.result (IsWeak c.args.event.now c.in-Some-event.write.now) w.is_weak.ensures w.if-is_weak.false (subst (IsWeak c.args.event.now) (sym is) m.meets.weak)
      | else-address-first-via-else-address-first w ↦ w.if-address-first.false (first ∙ made)
    ]

pub returns-then-is_unordered : goal.returns-then-is_unordered
returns-then-is_unordered c =
    let run = c.args.before.now in
    let once : ListsEachOnce run.log run.witness.order = search rules in
    let e = c.args.event.now in
    let key = c.in-Some.key in
    let w = c.in-Some-event.write.now in
    let at_w : slice_get run.witness.order c.args.other ≡ Some key = search rules in
    let there : event_in run.log key ≡ Some w = search rules in
    let writes : writes_byte run.log c.args.address key ≡ true = c.requires.write key at_w in
    let first : c.args.address ≡ max e.address w.address = search rules in
    let meets : Meets run once e c.args.place c.args.address c.args.other c.requires.listed c.requires.place key w = record {
      named = c.is_named.ensures.0 c.if-not-is_named.false;
      first = first;
      weak = c.is_weak.ensures.0 c.if-is_weak.true;
      unordered = (c.is_unordered.ensures (key_of e) key c.requires.place at_w).0 c.if-is_unordered.true;
    } in
    let found = met-pair run once e c.args.place c.args.address c.args.other c.requires.listed c.requires.place key w c.requires.byte at_w there writes meets in
    let P : EventKey → Type 0 = λ k. IsPairAt run c.args.place c.args.address c.args.other (record { event = k; write = key }) in
    subst P (sym c.key.ensures) found
