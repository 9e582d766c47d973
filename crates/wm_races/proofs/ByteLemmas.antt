-- The races of an event at a byte, class by class.
use Rattle.std.proofs.Common.{◌≡◌, ℕ, ◌+◌, ◌<◌, ◌≤◌, List, length, slice_get, get_or, true, Some, refl, sym, ap, ◌∙◌, subst, arith, ◌⊎◌, inl, inr, ⊎_elim}
use Rattle.std.proofs.lemmas.Bool.{cases_lt}
use Rattle.std.proofs.lemmas.List.Sorted.{IsNonDecreasingBy-insert}
use Rattle.std.proofs.lemmas.Option.{same_Some, slice_get-get_or, slice_get_within}
use Rattle.wm_event.specs.LoggedRun.{LoggedRun, execution}
use Rattle.wm_event.specs.Shape.{ListsEachOnce}
use Rattle.wm_event.specs.Writes.{writes_byte}
use Rattle.wm_races.specs.Classes.{AreClasses, AreOfSites, IsListed}
use Rattle.wm_races.specs.Groups.{AreGroupsOf, ArePlaced, Inserts, IsAtByte, RiseInPlace}
use Rattle.wm_races.specs.Listing.{write_place}
use Rattle.wm_races.specs.Parts.{IsGroupOf, IsPairWith}
use Rattle.wm_races.specs.Races.{IsRacingPair}
use Rattle.wm_races.specs.Report.{pair_sites, site_at}
use Rattle.wm_races.specs.declared.classes.Class.{Class}
use Rattle.wm_races.specs.declared.group.Group.{Group}
use Rattle.wm_races.specs.declared.pair.RacingPair.{RacingPair}
use Rattle.wm_races.specs.declared.site.Site.{Site}
use Rattle.wm_races.proofs.GroupLemmas.{groups_insert, groups_same}
use Rattle.wm_races.proofs.RaceLemmas.{first-written, stands}

-- the groups stay in the order of their places
pub rises_insert : (groups more : List Group) (g : Group) → RiseInPlace groups → Inserts g groups more → RiseInPlace more
rises_insert groups more g rises inserts = subst RiseInPlace (sym inserts.is) (IsNonDecreasingBy-insert (λ (h : Group). h.place) groups inserts.at g rises inserts.within
    (λ k d l. let w = inserts.within in inserts.below k (get_or groups k d) l (slice_get-get_or groups k d (omega (arith, l, w))))
    (λ k d l h. inserts.above k (get_or groups k d) l (slice_get-get_or groups k d h)))

-- a pair of the event at a place, at this byte, with a write of one of the first classes
abbrev pub IsOfFirst : LoggedRun → ℕ → ℕ → List Class → ℕ → RacingPair → Type 0
IsOfFirst run place byte classes count p = IsAtByte run place byte p
    × ((n : ℕ) × ((c : Class) × (n < count) × (slice_get classes n ≡ Some c) × IsListed c.places (write_place run p)))

module _ (run : LoggedRun) (once : ListsEachOnce run.log run.witness.order) (j a : ℕ) (classes : List Class) (are : AreClasses run a classes) where
  pub of_none : (p : RacingPair) → IsOfFirst run j a classes 0 p → ⊥
  of_none p is = let l = is.1.1.1 in omega (arith, l)

  more_of : (i : ℕ) (p : RacingPair) → IsOfFirst run j a classes i p → IsOfFirst run j a classes (i + 1) p
  more_of i p (at, (n, (c, l, at_c, listed))) = (at, (n, (c, omega (arith, l), at_c, listed)))

  module _ (i : ℕ) (c : Class) (at_c : slice_get classes i ≡ Some c) where
    either_of : (p : RacingPair) → IsOfFirst run j a classes (i + 1) p → IsOfFirst run j a classes i p ⊎ IsPairWith run j a c.places p
    either_of p (at, (n, (d, l, at_d, listed))) = ⊎_elim
        (λ (h : n < i). inl (at, (n, (d, h, at_d, listed))))
        (λ (h : i ≤ n).
        let e : n ≡ i = omega (arith, h, l) in
        let same : d ≡ c = same_Some d c (sym at_d ∙ ap (slice_get classes) e ∙ at_c) in
        inr (at, subst (λ (f : Class). IsListed f.places (write_place run p)) same listed))
        (cases_lt n i)

    with_this : (p : RacingPair) → IsPairWith run j a c.places p → IsOfFirst run j a classes (i + 1) p
    with_this p (at, listed) = (at, (i, (c, omega arith, at_c, listed)))

    not_both : (p : RacingPair) → IsRacingPair (execution run) p → IsOfFirst run j a classes i p → IsPairWith run j a c.places p → ⊥
    not_both p racing (at, (n, (d, l, at_d, listed))) with = let e = are.apart n i (write_place run p) d c at_d at_c listed with.1 in omega (arith, e, l)

    one_site : (sites : List (List Site)) → AreOfSites run sites classes → (p q : RacingPair) → IsRacingPair (execution run) p → IsRacingPair (execution run) q
        → IsPairWith run j a c.places p → IsPairWith run j a c.places q → pair_sites sites p ≡ pair_sites sites q
    one_site sites of_sites p q racing_p racing_q with_p with_q =
        let event : p.event ≡ q.event = same_Some p.event q.event (sym (stands run once p.event racing_p.race.first j racing_p.race.is_first with_p.0.0) ∙ stands run once q.event racing_q.race.first j racing_q.race.is_first with_q.0.0) in
        let s = of_sites i (write_place run p) c p.write at_c with_p.1 (stands run once p.write racing_p.race.second (write_place run p) racing_p.race.is_second refl) in
        let t = of_sites i (write_place run q) c q.write at_c with_q.1 (stands run once q.write racing_q.race.second (write_place run q) racing_q.race.is_second refl) in
        let write = s ∙ sym t in
        λ k. record { site = site_at sites (event k); other = write k }

    -- with the group of one class more
    pub class_some : (sites : List (List Site)) → AreOfSites run sites classes → (groups more : List Group) (g : Group) → ArePlaced run groups → IsGroupOf run (IsPairWith run j a c.places) g → Inserts g groups more
        → AreGroupsOf run sites (IsOfFirst run j a classes i) groups → AreGroupsOf run sites (IsOfFirst run j a classes (i + 1)) more
    class_some sites of_sites groups more g placed of_group inserts is =
        groups_same run sites (λ p. IsOfFirst run j a classes i p ⊎ IsPairWith run j a c.places p) (IsOfFirst run j a classes (i + 1)) more
        (λ p racing h. ⊎_elim (λ (l : IsOfFirst run j a classes i p). more_of i p l) (λ (r : IsPairWith run j a c.places p). with_this p r) h)
        (λ p racing h. either_of p h)
        (groups_insert run sites once j a (IsOfFirst run j a classes i) (IsPairWith run j a c.places) groups more g is of_group
        (λ p racing h. h.0) (λ p racing h. h.0) not_both
        (λ p racing h. let f = of_group.list.sound 0 g.pair of_group.first in one_site sites of_sites p g.pair racing f.0 h f.1)
        placed inserts)

    -- no race with one class more
    pub class_none : (sites : List (List Site)) (groups : List Group) → ((p : RacingPair) → IsRacingPair (execution run) p → IsPairWith run j a c.places p → ⊥)
        → AreGroupsOf run sites (IsOfFirst run j a classes i) groups → AreGroupsOf run sites (IsOfFirst run j a classes (i + 1)) groups
    class_none sites groups none is = groups_same run sites (IsOfFirst run j a classes i) (IsOfFirst run j a classes (i + 1)) groups
        (λ p racing h. more_of i p h)
        (λ p racing h. ⊎_elim (λ (l : IsOfFirst run j a classes i p). l) (λ (r : IsPairWith run j a c.places p). absurd (none p racing r)) (either_of p h))
        is

  pub class_done : (i : ℕ) → length classes ≤ i → (sites : List (List Site)) (groups : List Group) → AreGroupsOf run sites (IsOfFirst run j a classes i) groups → AreGroupsOf run sites (IsAtByte run j a) groups
  class_done i all sites groups is = groups_same run sites (IsOfFirst run j a classes i) (IsAtByte run j a) groups
      (λ p racing h. h.0)
      (λ p racing h.
      let o = write_place run p in
      let at = stands run once p.write racing.race.second o racing.race.is_second refl in
      let k = are.all o p.write at (subst (λ (b : ℕ). writes_byte run.log b p.write ≡ true) h.1 (first-written run once p racing)) in
      let w = slice_get_within classes k.0 k.1.0 k.1.1 in
      (h, (k.0, (k.1.0, omega (arith, w, all), k.1.1, k.1.2))))
      is
