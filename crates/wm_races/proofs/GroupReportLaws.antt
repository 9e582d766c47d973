-- A report of groups is one of their pairs.
use Rattle.std.proofs.Common.{◌≡◌, ℕ, ◌<◌, ◌≤◌, List, ◌&&◌, true, map, slice_get, Option, None, Some, refl, sym, ap, ◌∙◌, subst, arith, inl, inr, ⊎_elim}
use Rattle.std.specs.Option.{option_map}
use Rattle.std.proofs.lemmas.Bool.{cases_lt, false≢true}
use Rattle.std.proofs.lemmas.Option.{same_Some, slice_get-map}
use Rattle.wm_event.specs.Execution.{Execution}
use Rattle.wm_races.specs.Gathering.{IsGroupReport}
use Rattle.wm_races.specs.Groups.{AreInOrder, Gathers, IsNoLater, first_pair}
use Rattle.wm_races.specs.Races.{ComesBefore}
use Rattle.wm_races.specs.Report.{IsReport, first_at, has_sites, line_sites, pair_of, pair_sites, same_site}
use Rattle.wm_races.specs.declared.group.Group.{Group}
use Rattle.wm_races.specs.declared.pair.RacingPair.{RacingPair}
use Rattle.wm_races.specs.declared.site.Site.{Site}
use Rattle.wm_races.specs.declared.site.SitePair.{SitePair}
use Rattle.wm_races.specs.declared.site.SiteRace.{SiteRace}
use Rattle.wm_races.proofs.ListLemmas.{IsFirst, find-first, first-find, first-position, is_false}
use Rattle.wm_races.proofs.OneReportLaw.{never-both}

module _ (x : Execution) (sites : List (List Site)) (groups : List Group) (pairs : List RacingPair) (gathers : Gathers x sites groups pairs)
    (sorted : (m n : ℕ) (p q : RacingPair) → m < n → slice_get pairs m ≡ Some p → slice_get pairs n ≡ Some q → ComesBefore x p q) (order : AreInOrder x groups) where
  -- the group at a place among the first pairs
  its_group : (k : ℕ) (q : RacingPair) → slice_get (map first_pair groups) k ≡ Some q → (g : Group) × (slice_get groups k ≡ Some g) × (g.pair ≡ q)
  its_group k q at = found (slice_get groups k) refl (sym (slice_get-map first_pair groups k) ∙ at)
    where
      found : (o : Option Group) → slice_get groups k ≡ o → option_map first_pair o ≡ Some q → (g : Group) × (slice_get groups k ≡ Some g) × (g.pair ≡ q)
      found None at h = absurd (cc (h))
      found (Some g) at h = (g, at, same_Some g.pair q h)

  first_there : (k : ℕ) (g : Group) → slice_get groups k ≡ Some g → slice_get (map first_pair groups) k ≡ Some g.pair
  first_there k g at = slice_get-map first_pair groups k ∙ ap (option_map first_pair) at

  -- a pair that is no later than another does not come after it
  not_after : (m n : ℕ) (p q : RacingPair) → m < n → slice_get pairs m ≡ Some p → slice_get pairs n ≡ Some q → IsNoLater x q p → ⊥
  not_after m n p q l at_p at_q (inl e) = let b = sorted m n p q l at_p at_q in never-both x p q b (subst (λ (r : RacingPair). ComesBefore x r p) (sym e) (subst (ComesBefore x p) e b))
  not_after m n p q l at_p at_q (inr c) = never-both x p q (sorted m n p q l at_p at_q) c

  same_test : (between : SitePair) (p q : RacingPair) → pair_sites sites p ≡ pair_sites sites q → has_sites sites between p ≡ has_sites sites between q
  same_test between p q same = ap (λ (t : SitePair). same_site between.site t.site && same_site between.other t.other) same

  -- the first group of two sites begins with their first pair
  first_pair_there : (between : SitePair) (k : ℕ) (q : RacingPair) → IsFirst (has_sites sites between) (map first_pair groups) k q → (a : ℕ) × IsFirst (has_sites sites between) pairs a q
  first_pair_there between k q first =
      let g = its_group k q first.at in
      let there = gathers.among k g.0 g.1 in
      let at_q : slice_get pairs there.0 ≡ Some q = there.1 ∙ ap Some g.2 in (
        there.0,
        record {
          at = at_q;
          passes = first.passes;
          before = λ n p l at. is_false (has_sites sites between p) (λ t.
              let c = gathers.covered p (n, at) in
              let h = c.1.0 in
              let passes : has_sites sites between h.pair ≡ true = same_test between h.pair p c.1.2 ∙ t in
              let in_h = gathers.among c.0 h c.1.1 in
              ⊎_elim
              (λ (less : c.0 < k). false≢true (sym (first.before c.0 h.pair less (first_there c.0 h c.1.1)) ∙ passes))
              (λ (more : k ≤ c.0).
              let later : IsNoLater x q h.pair = no_earlier k c.0 q h g.0 g.1 g.2 more c.1.1 in
              chain n there.0 p q h l at at_q in_h.0 in_h.1 later c.1.3)
              (cases_lt c.0 k));
        },
      )
    where
      no_earlier : (k m : ℕ) (q : RacingPair) (h g : Group) → slice_get groups k ≡ Some g → g.pair ≡ q → k ≤ m → slice_get groups m ≡ Some h → IsNoLater x q h.pair
      no_earlier k m q h g at_g is l at_h = ⊎_elim
          (λ (less : k < m). inr (subst (λ (p : RacingPair). ComesBefore x p h.pair) is (order k m g h less at_g at_h)))
          (λ (more : m ≤ k).
          let e : k ≡ m = omega (arith, l, more) in
          inl (sym is ∙ ap (λ (f : Group). f.pair) (same_Some g h (sym at_g ∙ ap (slice_get groups) e ∙ at_h))))
          (cases_lt k m)

      chain : (n a : ℕ) (p q : RacingPair) (h : Group) → n < a → slice_get pairs n ≡ Some p → slice_get pairs a ≡ Some q → (b : ℕ) → slice_get pairs b ≡ Some h.pair → IsNoLater x q h.pair → IsNoLater x h.pair p → ⊥
      chain n a p q h l at_p at_q b at_h first second = ⊎_elim
          (λ (less : b < a). not_after b a h.pair q less at_h at_q first)
          (λ (more : a ≤ b). not_after n b p h.pair (omega (arith, l, more)) at_p at_h second)
          (cases_lt b a)

  -- the place of a line's first pair among the pairs
  line_first : (lines : List SiteRace) (report : IsGroupReport sites groups lines) (n : ℕ) (r : SiteRace) → slice_get lines n ≡ Some r → (a : ℕ) × IsFirst (has_sites sites (line_sites r)) pairs a (pair_of r)
  line_first lines report n r at = first_pair_there (line_sites r) (first_at sites (map first_pair groups) r) (pair_of r) (find-first (has_sites sites (line_sites r)) (map first_pair groups) (pair_of r) (report.first n r at))

  pub group-report : (lines : List SiteRace) → IsGroupReport sites groups lines → IsReport sites pairs lines
  group-report lines report = record {
    each = λ n r at. (let f = line_first lines report n r at in record {
      first = first-find (has_sites sites (line_sites r)) pairs f.0 (pair_of r) f.1;
      count = report.count n r at ∙ gathers.counts (line_sites r);
    });
    all = λ p is.
        let c = gathers.covered p is in
        let line = report.all c.1.0.pair (c.0, first_there c.0 c.1.0 c.1.1) in
        (line.0, (line.1.0, line.1.1, sym (same_test (line_sites line.1.0) c.1.0.pair p c.1.2) ∙ line.1.2));
    order = λ m n r s l at_r at_s.
        let f = line_first lines report m r at_r in
        let g = line_first lines report n s at_s in
        let e = first-position (has_sites sites (line_sites r)) pairs f.0 (pair_of r) f.1 in
        let d = first-position (has_sites sites (line_sites s)) pairs g.0 (pair_of s) g.1 in
        let less = report.order m n r s l at_r at_s in
        let a = find-first (has_sites sites (line_sites r)) (map first_pair groups) (pair_of r) (report.first m r at_r) in
        let b = find-first (has_sites sites (line_sites s)) (map first_pair groups) (pair_of s) (report.first n s at_s) in
        let h = its_group (first_at sites (map first_pair groups) r) (pair_of r) a.at in
        let k = its_group (first_at sites (map first_pair groups) s) (pair_of s) b.at in
        let before : ComesBefore x (pair_of r) (pair_of s) = subst (ComesBefore x (pair_of r)) k.2 (subst (λ (p : RacingPair). ComesBefore x p k.0.pair) h.2 (order (first_at sites (map first_pair groups) r) (first_at sites (map first_pair groups) s) h.0 k.0 less h.1 k.1)) in
        let stands : f.0 < g.0 = earlier f.0 g.0 (pair_of r) (pair_of s) f.1.at g.1.at before in
        omega (arith, e, d, stands);
  }
    where
      earlier : (m n : ℕ) (p q : RacingPair) → slice_get pairs m ≡ Some p → slice_get pairs n ≡ Some q → ComesBefore x p q → m < n
      earlier m n p q at_p at_q before = ⊎_elim
          (λ (l : m < n). l)
          (λ (l : n ≤ m). ⊎_elim
          (λ (k : n < m). absurd (never-both x p q before (sorted n m q p k at_q at_p)))
          (λ (k : m ≤ n).
          let e : m ≡ n = omega (arith, l, k) in
          let same : p ≡ q = same_Some p q (sym at_p ∙ ap (slice_get pairs) e ∙ at_q) in
          let self : ComesBefore x p p = subst (ComesBefore x p) (sym same) before in
          absurd (never-both x p p self self))
          (cases_lt n m))
          (cases_lt m n)
