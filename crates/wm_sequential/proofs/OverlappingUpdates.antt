-- Two overlapping updates that both read the initial bytes.
use Rattle.std.proofs.Common.{◌≡◌, ◌<◌, ◌≤◌, slice_get, refl, sym, ap, ◌∙◌, arith, ⊎_elim}
use Rattle.std.proofs.lemmas.Bool.{cases_lt, false≢true}
use Rattle.std.proofs.lemmas.Option.{same_Some}
use Rattle.wm_event.specs.declared.event.EventKey.{EventKey}
use Rattle.wm_event.specs.declared.event.EventId.TheVariants.{Init, At}
use Rattle.wm_event.specs.Event.{is_atomic}
use Rattle.wm_event.specs.Execution.{Execution, place}
use Rattle.wm_event.specs.LoggedRun.{LoggedRun, execution}
use Rattle.wm_event.specs.Rules.{IsValid}
use Rattle.wm_event.specs.Shape.{IsWellShaped}
use Rattle.wm_event.proofs.PlaceLemmas.{position_listed}
use Rattle.wm_standard.specs.Agreement.{with_order}
use Rattle.wm_standard.proofs.TwoUpdates.{Is, key, run, shaped, update, valid, which, wide_update}
use Rattle.wm_standard.proofs.TwoUpdates.Is.{narrow, wide}
use Rattle.wm_sequential.specs.Weaker.{IsPlain, IsSequentialInNoOrder, PlainRace, PlainRacesAreNotEnough}

abbrev updates : LoggedRun
updates = run 0 1 2 Init Init

is-shaped : IsWellShaped updates
is-shaped = shaped 0 1 2 Init Init (omega arith) (omega arith) (omega arith) tt tt

is-valid : IsValid (execution updates)
is-valid = valid 0 1 2 Init Init (λ u h. absurd (cc)) (λ u h. absurd (cc)) refl refl refl

none-plain : (a : EventKey) → IsPlain (execution updates) a → ⊥
none-plain a h = by (which 0 1 2 Init Init a.thread a.number h.0 h.1)
  where
    by : Is 0 1 2 Init Init a.thread a.number h.0 → ⊥
    by (narrow t n is) = false≢true (sym h.2 ∙ ap is_atomic (sym is))
    by (wide t n is) = false≢true (sym h.2 ∙ ap is_atomic (sym is))

no-plain-race : (a b : EventKey) → PlainRace (execution updates) a b → ⊥
no-plain-race a b race = ⊎_elim (λ (h : IsPlain (execution updates) a). none-plain a h) (λ (h : IsPlain (execution updates) b). none-plain b h) race.1

-- each update would have to come before the other
not-sequential : IsSequentialInNoOrder updates
not-sequential order listed sequential =
    let one = (sequential.takes_last (key 0) (update 0 1 2 Init Init) 0 Init refl refl).last (At (key 1)) refl in
    let other = (sequential.takes_last (key 1) (wide_update 0 1 2 Init Init) 0 Init refl refl).last (At (key 0)) refl in
    ⊎_elim
    (λ (l : place y (At (key 1)) < place y (At (key 0))). let h = one l in omega (arith, h))
    (λ (l : place y (At (key 0)) ≤ place y (At (key 1))). ⊎_elim
    (λ (m : place y (At (key 0)) < place y (At (key 1))). let h = other m in omega (arith, h))
    (λ (m : place y (At (key 1)) ≤ place y (At (key 0))). apart (omega (arith, l, m)))
    (cases_lt (place y (At (key 0))) (place y (At (key 1)))))
    (cases_lt (place y (At (key 1))) (place y (At (key 0))))
  where
    y : Execution
    y = execution (with_order updates order)

    apart : y.place_of (key 0) ≡ y.place_of (key 1) → ⊥
    apart same =
        let m = listed.order.listed (key 0) refl in
        let n = listed.order.listed (key 1) refl in
        let p : y.place_of (key 0) ≡ m.0 = position_listed updates.log order listed.order m.0 (key 0) m.1 in
        let q : y.place_of (key 1) ≡ n.0 = position_listed updates.log order listed.order n.0 (key 1) n.1 in
        let e : m.0 ≡ n.0 = sym p ∙ same ∙ q in
        let k : key 0 ≡ key 1 = same_Some (key 0) (key 1) (sym m.1 ∙ ap (slice_get order) e ∙ n.1) in
        let t : 0 ≡ 1 = ap (λ (k : EventKey). k.thread) k in
        omega (arith, t)

pub plain-races-are-not-enough : PlainRacesAreNotEnough
plain-races-are-not-enough = record {
  run = updates;
  shaped = is-shaped;
  valid = is-valid;
  race_free = no-plain-race;
  not_sequential = not-sequential;
}
