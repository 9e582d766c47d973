use Rattle.std.proofs.Common.{◌≡◌, ◌<◌, ◌-◌, ℕ, List, None, Some, get_or, length, slice_get, sym, ap, ◌∙◌, subst, arith}
use Rattle.std.proofs.lemmas.Bool.{false≢true}
use Rattle.std.proofs.lemmas.Option.{slice_get-get_or}
use Rattle.wm_event.specs.declared.event.EventKey.{EventKey}
use Rattle.wm_event.specs.LoggedRun.{LoggedRun}
use Rattle.wm_event.specs.Shape.{IsWellShaped}
use Rattle.wm_races.specs.Parts.{IsGroupOf, IsPairWith}
use Rattle.wm_races.proofs.ClassLemmas.{group_some, none_first, none_inside, none_own, none_weak}
use Rattle.wm_races.proofs.ListLemmas.{none_some}
use Rattle.wm_races.proofs.part.group_with.Goals as goal
use Rattle.wm_races.proofs.part.group_with.Goals.{then-address-from-via-then-address-from, then-address-from-via-else-address-from+then-kind-event, then-address-from-via-else-address-from+else-kind-event+then-not-is_weak_with}

pub returns-then-address-from : goal.returns-then-address-from
returns-then-address-from c =
    let run = c.args.before.now in
    let shape : IsWellShaped run = subst IsWellShaped c.candidate-candidate.ensures.value c.log-log.ensures.shape in
    elim c.then-address-from.branch [
      | then-address-from-via-then-address-from w ↦
          none_first run shape.order shape.keys c.candidate-candidate.ensures.agrees c.args.address c.args.class.now c.requires.class c.args.event.now c.args.place c.requires.listed c.requires.place
          (λ e. w.if-address-from.true (e ∙ sym c.max.ensures ∙ sym c.from.ensures))
      | then-address-from-via-else-address-from+then-kind-event w ↦
          none_own run shape.order shape.keys c.candidate-candidate.ensures.agrees c.args.address c.args.class.now c.requires.class c.args.event.now c.args.place c.requires.listed c.requires.place
          w.if-kind-event.true
      | then-address-from-via-else-address-from+else-kind-event+then-not-is_weak_with w ↦
          none_weak run shape.order shape.keys c.candidate-candidate.ensures.agrees c.args.address c.args.class.now c.requires.class c.args.event.now c.args.place c.requires.listed c.requires.place
          (λ weak. false≢true (sym w.if-not-is_weak_with.true ∙ w.is_weak_with.ensures.1 weak))
    ]

pub returns-then-high-low : goal.returns-then-high-low
returns-then-high-low c =
    let run = c.args.before.now in
    let shape : IsWellShaped run = subst IsWellShaped c.candidate-candidate.ensures.value c.log-log.ensures.shape in
    none_inside run shape.order shape.keys c.candidate-candidate.ensures.agrees c.args.address c.args.class.now c.requires.class c.args.event.now c.args.place c.requires.listed c.requires.place
    c.part_of-low.result.0 c.part_of-low.result.1 c.part_of-low.ensures c.if-high-low.true

pub returns-in-Some : goal.returns-in-Some
returns-in-Some c =
    let run = c.args.before.now in
    let shape : IsWellShaped run = subst IsWellShaped c.candidate-candidate.ensures.value c.log-log.ensures.shape in
    let part = c.part_of-low.ensures in
    let low = c.part_of-low.result.0 in
    let high = c.part_of-low.result.1 in
    let less : low < high = c.if-high-low.false in
    let bound = part.bound in
    let same = ap length c.as_slice.ensures in
    let o = get_or c.as_slice.result.now low 0 in
    let at : slice_get c.args.class.now.places low ≡ Some o = subst (λ (os : List ℕ). slice_get os low ≡ Some o) c.as_slice.ensures (slice_get-get_or c.as_slice.result.now low 0 (omega (arith, less, bound, same))) in
    let at_key : slice_get run.witness.order o ≡ Some c.in-Some.write = subst (λ (x : LoggedRun). slice_get x.witness.order o ≡ Some c.in-Some.write) c.candidate-candidate.ensures.value c.in-Some.ensures in
    let found = group_some run shape.order shape.keys c.candidate-candidate.ensures.agrees c.args.address c.args.class.now c.requires.class c.args.event.now c.args.place c.requires.listed c.requires.place
    low high part c.requires.byte (c.if-address-from.false ∙ c.from.ensures ∙ c.max.ensures) (c.is_weak_with.ensures.0 c.if-not-is_weak_with.false) less o c.in-Some.write at at_key in
    subst (λ (k : EventKey). IsGroupOf run (IsPairWith run c.args.place c.args.address c.args.class.now.places) (record { pair = record { event = k; write = c.in-Some.write }; place = o; count = high - low })) (sym c.key.ensures) found

pub returns-in-None : goal.returns-in-None
returns-in-None c =
    let run = c.args.before.now in
    let part = c.part_of-low.ensures in
    let low = c.part_of-low.result.0 in
    let less : low < c.part_of-low.result.1 = c.if-high-low.false in
    let bound = part.bound in
    let same = ap length c.as_slice.ensures in
    let o = get_or c.as_slice.result.now low 0 in
    let at : slice_get c.args.class.now.places low ≡ Some o = subst (λ (os : List ℕ). slice_get os low ≡ Some o) c.as_slice.ensures (slice_get-get_or c.as_slice.result.now low 0 (omega (arith, less, bound, same))) in
    let gone : slice_get run.witness.order o ≡ None = subst (λ (x : LoggedRun). slice_get x.witness.order o ≡ None) c.candidate-candidate.ensures.value c.in-None.ensures in
    let m = c.requires.class.members low o at in
    absurd (none_some (slice_get run.witness.order o) m.key gone m.listed)
