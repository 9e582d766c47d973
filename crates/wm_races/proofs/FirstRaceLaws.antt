-- The races of the events before a place are the first ones of all.
use Rattle.std.proofs.Common.{◌≡◌, ℕ, zero, suc, ◌+◌, ◌<◌, ◌≤◌, List, [], ◌∷◌, ◌++◌, length, min, slice_get, take, Some, refl, ap, ◌∙◌, subst, arith, ◌⊎◌, inl, inr, ⊎_elim}
use Rattle.std.proofs.lemmas.Bool.{cases_lt}
use Rattle.std.proofs.lemmas.List.{length-take, take_all}
use Rattle.std.proofs.lemmas.Option.{same_Some}
use Rattle.wm_event.specs.LoggedRun.{LoggedRun, execution}
use Rattle.wm_event.specs.Shape.{ListsEachOnce}
use Rattle.wm_races.specs.Listing.{Lists, event_place}
use Rattle.wm_races.specs.Races.{ComesBefore, IsIn, IsRaceList, IsRacingPair}
use Rattle.wm_races.specs.Races.ComesBefore.{by_event, by_byte, by_write}
use Rattle.wm_races.specs.declared.pair.RacingPair.{RacingPair}
use Rattle.wm_races.proofs.ListLemmas.{get-part, part-get}
use Rattle.wm_races.proofs.ListingLemmas.{lists_append}
use Rattle.wm_races.proofs.OneReportLaw.{never-both, one-name, one-order, one-race-list}
use Rattle.wm_races.proofs.RaceListLaws.{all-races}

-- the first items of the first items
pub take-first : {X : Type 0} (m n : ℕ) (xs : List X) → m ≤ n → take m (take n xs) ≡ take m xs
take-first zero n xs l = refl
take-first (suc m) zero xs l = absurd (omega (arith, l))
take-first (suc m) (suc n) [] l = refl
take-first (suc m) (suc n) (x ∷ xs) l = ap (λ ys. x ∷ ys) (take-first m n xs (omega (arith, l)))

-- one event more
pub lists-below : (run : LoggedRun) (place : ℕ) (pairs more : List RacingPair) → Lists run (λ p. event_place run p < place) pairs → Lists run (λ p. event_place run p ≡ place) more
    → Lists run (λ p. event_place run p < place + 1) (pairs ++ more)
lists-below run place pairs more first second = lists_append run (λ p. event_place run p < place) (λ p. event_place run p ≡ place) (λ p. event_place run p < place + 1) pairs more
    (λ p q racing_p racing_q l e. by_event (omega (arith, l, e)))
    (λ p racing l. omega (arith, l))
    (λ p racing e. omega (arith, e))
    (λ p racing l. ⊎_elim (λ (h : event_place run p < place). inl h) (λ (h : place ≤ event_place run p). inr (omega (arith, l, h))) (cases_lt (event_place run p) place))
    first second

module _ (run : LoggedRun) where
  -- where the pairs of the events before a place end
  pub record IsEndBelow (place : ℕ) (pairs : List RacingPair) (i : ℕ) : Type 0 where
    pub within : i ≤ length pairs
    pub below : (n : ℕ) (p : RacingPair) → n < i → slice_get pairs n ≡ Some p → event_place run p < place
    pub above : (n : ℕ) (p : RacingPair) → i ≤ n → slice_get pairs n ≡ Some p → place ≤ event_place run p

  -- no pair is of an earlier event than the pairs before it
  abbrev AreByEvent : List RacingPair → Type 0
  AreByEvent pairs = (m n : ℕ) (p q : RacingPair) → m < n → slice_get pairs m ≡ Some p → slice_get pairs n ≡ Some q → event_place run p ≤ event_place run q

  end-below : (place : ℕ) (pairs : List RacingPair) → AreByEvent pairs → (i : ℕ) × IsEndBelow place pairs i
  end-below place [] up = (0, record { within = omega arith; below = λ n p l h. absurd (cc (h)); above = λ n p l h. absurd (cc (h)) })
  end-below place (q ∷ pairs) up = ⊎_elim
      (λ (h : event_place run q < place).
      let r = end-below place pairs (λ m n a b l at_a at_b. up (suc m) (suc n) a b (omega arith) at_a at_b) in
      let w = r.1.within in (suc r.0, record { within = omega (arith, w); below = λ n p l at. under h r n p l at; above = λ n p l at. over r n p l at }))
      (λ (h : place ≤ event_place run q). (0, record { within = omega arith; below = λ n p l at. absurd (omega (arith, l)); above = λ n p l at. from h n p at }))
      (cases_lt (event_place run q) place)
    where
      from : place ≤ event_place run q → (n : ℕ) (p : RacingPair) → slice_get (q ∷ pairs) n ≡ Some p → place ≤ event_place run p
      from h zero p at = let e = ap (event_place run) (same_Some q p at) in omega (arith, h, e)
      from h (suc n) p at = let l = up 0 (suc n) q p (omega arith) refl at in omega (arith, h, l)

      under : event_place run q < place → (r : (i : ℕ) × IsEndBelow place pairs i) → (n : ℕ) (p : RacingPair) → n < suc r.0 → slice_get (q ∷ pairs) n ≡ Some p → event_place run p < place
      under h r zero p l at = let e = ap (event_place run) (same_Some q p at) in omega (arith, h, e)
      under h r (suc n) p l at = r.1.below n p (omega (arith, l)) at

      over : (r : (i : ℕ) × IsEndBelow place pairs i) → (n : ℕ) (p : RacingPair) → suc r.0 ≤ n → slice_get (q ∷ pairs) n ≡ Some p → place ≤ event_place run p
      over r zero p l at = absurd (omega (arith, l))
      over r (suc n) p l at = r.1.above n p (omega (arith, l)) at

  module _ (all : List RacingPair) (list : IsRaceList (execution run) all) where
    by-event : AreByEvent all
    by-event m n p q l at_p at_q = by (list.sorted m n p q l at_p at_q)
      where
        by : ComesBefore (execution run) p q → event_place run p ≤ event_place run q
        by (by_event h) = omega (arith, h)
        by (by_byte e h) = omega (arith, e)
        by (by_write e d h) = omega (arith, e)

    -- each racing pair is in the list
    racing-in : (p : RacingPair) → IsRacingPair (execution run) p → IsIn all p
    racing-in p racing = ⊎_elim
        (λ (h : IsIn all p). h)
        (λ (h : IsIn all (record { event = p.write; write = p.event })). absurd (one-name (execution run) p racing (list.sound (record { event = p.write; write = p.event }) h)))
        (list.complete p.event p.write racing.race)

    taken : (i n : ℕ) (p : RacingPair) → slice_get (take i all) n ≡ Some p → (n < i) × (slice_get all n ≡ Some p)
    taken i n p at =
        let s = get-part all 0 i n p at in
        let z : 0 + n ≡ n = omega arith in
        (s.0, subst (λ (m : ℕ). slice_get all m ≡ Some p) z s.1)

    kept : (i n : ℕ) (p : RacingPair) → n < i → slice_get all n ≡ Some p → slice_get (take i all) n ≡ Some p
    kept i n p l at =
        let z : n ≡ 0 + n = omega arith in
        part-get all 0 i n p l (subst (λ (m : ℕ). slice_get all m ≡ Some p) z at)

    pub first-ones : (place : ℕ) (pairs : List RacingPair) → Lists run (λ p. event_place run p < place) pairs → (i : ℕ) × (pairs ≡ take i all)
    first-ones place pairs lists =
        let r = end-below place all by-event in
        (r.0, one-order (ComesBefore (execution run)) (never-both (execution run)) pairs (take r.0 all) lists.sorted (sorted r.0) (into r) (out-of r))
      where
        sorted : (i m n : ℕ) (p q : RacingPair) → m < n → slice_get (take i all) m ≡ Some p → slice_get (take i all) n ≡ Some q → ComesBefore (execution run) p q
        sorted i m n p q l at_p at_q = list.sorted m n p q l (taken i m p at_p).1 (taken i n q at_q).1

        into : (r : (i : ℕ) × IsEndBelow place all i) → (n : ℕ) (p : RacingPair) → slice_get pairs n ≡ Some p → (m : ℕ) × (slice_get (take r.0 all) m ≡ Some p)
        into r n p at =
            let s = lists.sound n p at in
            let k = racing-in p s.0 in
            let below = s.1 in
            ⊎_elim
            (λ (h : k.0 < r.0). (k.0, kept r.0 k.0 p h k.1))
            (λ (h : r.0 ≤ k.0). let above = r.1.above k.0 p h k.1 in absurd (omega (arith, above, below)))
            (cases_lt k.0 r.0)

        out-of : (r : (i : ℕ) × IsEndBelow place all i) → (n : ℕ) (p : RacingPair) → slice_get (take r.0 all) n ≡ Some p → (m : ℕ) × (slice_get pairs m ≡ Some p)
        out-of r n p at =
            let s = taken r.0 n p at in
            lists.complete p (list.sound p (n, s.1)) (r.1.below n p s.0 s.1)

    -- enough of them, or all, are the first of all races
    pub first-taken : (place limit : ℕ) (pairs : List RacingPair) → ListsEachOnce run.log run.witness.order → Lists run (λ p. event_place run p < place) pairs
        → (length run.witness.order ≤ place) ⊎ ((limit ≤ length pairs) ⊎ (length all ≤ length pairs)) → take limit pairs ≡ take limit all
    first-taken place limit pairs once lists (inl end) =
        ap (take limit) (one-race-list (execution run) pairs all (all-races run once place pairs end lists) list)
    first-taken place limit pairs once lists (inr (inl enough)) =
        let r = first-ones place pairs lists in
        let few : length pairs ≡ min r.0 (length all) = ap length r.1 ∙ length-take r.0 all in
        ap (take limit) r.1 ∙ take-first limit r.0 all (omega (arith, few, enough))
    first-taken place limit pairs once lists (inr (inr whole)) =
        let r = first-ones place pairs lists in
        let few : length pairs ≡ min r.0 (length all) = ap length r.1 ∙ length-take r.0 all in
        ap (take limit) (r.1 ∙ take_all r.0 all (omega (arith, few, whole)))
