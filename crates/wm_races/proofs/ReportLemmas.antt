-- A report of one group of pairs more.
use Rattle.std.proofs.Common.{◌≡◌, ◌≢◌, ℕ, zero, suc, ◌+◌, ◌<◌, ◌≤◌, List, [], ◌∷◌, ◌++◌, Bool, true, false, not, cond, eqb, ◌&&◌, ◌||◌, length, slice_get, set, None, Some, refl, sym, ap, ◌∙◌, subst, arith, ◌⊎◌, inl, inr, ⊎_elim}
use Rattle.std.specs.Prelude.{sum_by, map}
use Rattle.std.specs.List.{find, list_any, position_or_len}
use Rattle.std.specs.Option.{option_or}
use Rattle.std.proofs.lemmas.Bool.{and_parts, and_from, eqb-true, eq-eqb, cases_lt, cases_Bool, false≢true}
use Rattle.std.proofs.lemmas.List.{map-append}
use Rattle.std.proofs.lemmas.List.Folds.{find-append}
use Rattle.std.proofs.lemmas.List.Sums.{sum_by-cons, sum_by_push}
use Rattle.std.proofs.lemmas.Option.{same_Some, slice_get_within}
use Rattle.wm_races.specs.Gathering.{AddsGroup, HasSitesOf, IsGroupReport, IsNumbered, count_of, counts_more, first_line, number_in}
use Rattle.wm_races.specs.Gathering.AddsGroup.{counts, begins}
use Rattle.wm_races.specs.Groups.{count_between, first_pair}
use Rattle.wm_races.specs.Report.{HasLine, first_at, has_sites, line_sites, pair_of, pair_sites, same_site}
use Rattle.wm_races.specs.declared.group.Group.{Group}
use Rattle.wm_races.specs.declared.pair.RacingPair.{RacingPair}
use Rattle.wm_races.specs.declared.site.Site.{Site}
use Rattle.wm_races.specs.declared.site.SitePair.{SitePair}
use Rattle.wm_races.specs.declared.site.SiteRace.{SiteRace}
use Rattle.wm_races.proofs.ListLemmas.{get-left, get-right, get-append, get_one, get-set, set-get, set-get_other, none-find, found-position, found-below, is_false}

pub site-same : (a b : Site) → same_site a b ≡ true → a ≡ b
site-same a b h =
    let p = and_parts (eqb a.function b.function) (eqb a.instruction b.instruction && eqb a.offset b.offset) h in
    let q = and_parts (eqb a.instruction b.instruction) (eqb a.offset b.offset) p.1 in
    let s = eqb-true a.function b.function p.0 in
    let t = eqb-true a.instruction b.instruction q.0 in
    let u = eqb-true a.offset b.offset q.1 in
    λ i. record { function = s i; instruction = t i; offset = u i }

pub same-site : (a : Site) → same_site a a ≡ true
same-site a =
    and_from (eqb a.function a.function) (eqb a.instruction a.instruction && eqb a.offset a.offset) (eq-eqb a.function a.function refl)
    (and_from (eqb a.instruction a.instruction) (eqb a.offset a.offset) (eq-eqb a.instruction a.instruction refl) (eq-eqb a.offset a.offset refl))

module _ (sites : List (List Site)) where
  pub sites-same : (between : SitePair) (p : RacingPair) → has_sites sites between p ≡ true → between ≡ pair_sites sites p
  sites-same between p h =
      let q = and_parts (same_site between.site (pair_sites sites p).site) (same_site between.other (pair_sites sites p).other) h in
      let s = site-same between.site (pair_sites sites p).site q.0 in
      let t = site-same between.other (pair_sites sites p).other q.1 in
      λ i. record { site = s i; other = t i }

  pub same-sites : (p : RacingPair) → has_sites sites (pair_sites sites p) p ≡ true
  same-sites p = and_from (same_site (pair_sites sites p).site (pair_sites sites p).site) (same_site (pair_sites sites p).other (pair_sites sites p).other) (same-site (pair_sites sites p).site) (same-site (pair_sites sites p).other)

  module _ (firsts : List RacingPair) (number : SitePair → ℕ) (q : RacingPair) (c : ℕ) where
    -- this number of further pairs of the sites of q
    abbrev pub numbers_more : SitePair → ℕ
    numbers_more between = number between + cond (has_sites sites between q) c 0

    -- the first pair of a line stays the first one
    kept_find : (r : SiteRace) → find (has_sites sites (line_sites r)) firsts ≡ Some (pair_of r) → find (has_sites sites (line_sites r)) (firsts ++ q ∷ []) ≡ Some (pair_of r)
    kept_find r first = find-append (has_sites sites (line_sites r)) firsts (q ∷ []) ∙ ap (λ o. option_or o (find (has_sites sites (line_sites r)) (q ∷ []))) first

    kept_first : (r : SiteRace) → find (has_sites sites (line_sites r)) firsts ≡ Some (pair_of r) → first_at sites (firsts ++ q ∷ []) r ≡ first_at sites firsts r
    kept_first r first = found-position (has_sites sites (line_sites r)) firsts (q ∷ []) (pair_of r) first

    -- a line of other sites has the same number
    kept_number : (r : SiteRace) → has_sites sites (line_sites r) q ≡ false → r.count ≡ number (line_sites r) → r.count ≡ numbers_more (line_sites r)
    kept_number r differs count = count ∙ sym (ap (λ b. number (line_sites r) + cond b c 0) differs ∙ zero_more (number (line_sites r)))
      where
        zero_more : (n : ℕ) → n + 0 ≡ n
        zero_more n = omega arith

    -- two lines of the same sites are one
    one_line : (lines : List SiteRace) → IsNumbered sites firsts number lines → (m n : ℕ) (r s : SiteRace) → slice_get lines m ≡ Some r → slice_get lines n ≡ Some s → line_sites r ≡ line_sites s → m ≡ n
    one_line lines report m n r s at_r at_s same =
        let e : first_at sites firsts r ≡ first_at sites firsts s = ap (λ b. position_or_len (has_sites sites b) firsts) same in
        ⊎_elim
        (λ (l : m < n). let k = report.order m n r s l at_r at_s in absurd (omega (arith, k, e)))
        (λ (l : n ≤ m). ⊎_elim
        (λ (h : n < m). let k = report.order n m s r h at_s at_r in absurd (omega (arith, k, e)))
        (λ (h : m ≤ n). let d : m ≡ n = omega arith in d)
        (cases_lt n m))
        (cases_lt m n)

    module _ (lines : List SiteRace) (report : IsNumbered sites firsts number lines) where
      pub counted : (n : ℕ) (r : SiteRace) → slice_get lines n ≡ Some r → line_sites r ≡ pair_sites sites q → IsNumbered sites (firsts ++ q ∷ []) numbers_more (set lines n (counts_more c r))
      counted n r at same = record {
        first = λ m s h. ⊎_elim
            (λ (l : (m ≡ n) × (s ≡ counts_more c r)). subst (λ (t : SiteRace). find (has_sites sites (line_sites t)) (firsts ++ q ∷ []) ≡ Some (pair_of t)) (sym l.1) (kept_find r (report.first n r at)))
            (λ (l : (m ≢ n) × (slice_get lines m ≡ Some s)). kept_find s (report.first m s l.1))
            (get-set lines n (counts_more c r) m s h);
        count = λ m s h. ⊎_elim
            (λ (l : (m ≡ n) × (s ≡ counts_more c r)). subst (λ (t : SiteRace). t.count ≡ numbers_more (line_sites t)) (sym l.1) (ap (λ k. k + c) (report.count n r at) ∙ sym (ap (λ b. number (line_sites r) + cond b c 0) has)))
            (λ (l : (m ≢ n) × (slice_get lines m ≡ Some s)). kept_number s (other m s l.0 l.1) (report.count m s l.1))
            (get-set lines n (counts_more c r) m s h);
        all = λ p h. ⊎_elim
            (λ (l : slice_get firsts h.0 ≡ Some p). has_line p (report.all p (h.0, l)))
            (λ (l : (k : ℕ) × (h.0 ≡ k + length firsts) × (slice_get (q ∷ []) k ≡ Some p)).
            let e : p ≡ q = (get_one q l.0 p l.2).1 in
            (n, (counts_more c r, set-get lines n (counts_more c r) r at, subst (λ t. has_sites sites (line_sites r) t ≡ true) (sym e) has)))
            (get-append firsts (q ∷ []) h.0 p h.1);
        order = λ i j s t l at_s at_t.
            let a = old i s at_s in let b = old j t at_t in
            let k = report.order i j a.0 b.0 l a.1 b.1 in
            let f = a.2 in let g = b.2 in
            omega (arith, k, f, g);
      }
        where
          has : has_sites sites (line_sites r) q ≡ true
          has = subst (λ b. has_sites sites b q ≡ true) (sym same) (same-sites q)

          other : (m : ℕ) (s : SiteRace) → m ≢ n → slice_get lines m ≡ Some s → has_sites sites (line_sites s) q ≡ false
          other m s d h = is_false (has_sites sites (line_sites s) q) (λ t. d (one_line lines report m n s r h at (sites-same (line_sites s) q t ∙ sym same)))

          has_line : (p : RacingPair) → HasLine sites lines p → HasLine sites (set lines n (counts_more c r)) p
          has_line p (m, (s, h, t)) = ⊎_elim
              (λ (e : eqb m n ≡ true).
              let d : m ≡ n = eqb-true m n e in
              let w : s ≡ r = same_Some s r (sym h ∙ ap (slice_get lines) d ∙ at) in
              (n, (counts_more c r, set-get lines n (counts_more c r) r at, subst (λ z. has_sites sites (line_sites z) p ≡ true) w t)))
              (λ (e : eqb m n ≡ false). (m, (s, set-get_other lines n (counts_more c r) m s (λ d. false≢true (sym e ∙ eq-eqb m n d)) h, t)))
              (cases_Bool (eqb m n))

          old : (i : ℕ) (s : SiteRace) → slice_get (set lines n (counts_more c r)) i ≡ Some s → (t : SiteRace) × (slice_get lines i ≡ Some t) × (first_at sites (firsts ++ q ∷ []) s ≡ first_at sites firsts t)
          old i s h = ⊎_elim
              (λ (l : (i ≡ n) × (s ≡ counts_more c r)). (r, ap (slice_get lines) l.0 ∙ at, ap (first_at sites (firsts ++ q ∷ [])) l.1 ∙ kept_first r (report.first n r at)))
              (λ (l : (i ≢ n) × (slice_get lines i ≡ Some s)). (s, l.1, kept_first s (report.first i s l.1)))
              (get-set lines n (counts_more c r) i s h)

      abbrev pub begun_line : SiteRace
      begun_line = record { site = (pair_sites sites q).site; other = (pair_sites sites q).other; event = q.event; write = q.write; count = c }

      pub begun : ((n : ℕ) → HasSitesOf lines n (pair_sites sites q) → ⊥) → (((n : ℕ) (p : RacingPair) → slice_get firsts n ≡ Some p → has_sites sites (pair_sites sites q) p ≡ false) → number (pair_sites sites q) ≡ 0)
          → IsNumbered sites (firsts ++ q ∷ []) numbers_more (lines ++ begun_line ∷ [])
      begun none no_number = record {
        first = λ m s h. ⊎_elim
            (λ (l : slice_get lines m ≡ Some s). kept_find s (report.first m s l))
            (λ (l : (k : ℕ) × (m ≡ k + length lines) × (slice_get (begun_line ∷ []) k ≡ Some s)). subst (λ (t : SiteRace). find (has_sites sites (line_sites t)) (firsts ++ q ∷ []) ≡ Some (pair_of t)) (sym (get_one begun_line l.0 s l.2).1) new_find)
            (get-append lines (begun_line ∷ []) m s h);
        count = λ m s h. ⊎_elim
            (λ (l : slice_get lines m ≡ Some s). kept_number s (other m s l) (report.count m s l))
            (λ (l : (k : ℕ) × (m ≡ k + length lines) × (slice_get (begun_line ∷ []) k ≡ Some s)). subst (λ (t : SiteRace). t.count ≡ numbers_more (line_sites t)) (sym (get_one begun_line l.0 s l.2).1) new_number)
            (get-append lines (begun_line ∷ []) m s h);
        all = λ p h. ⊎_elim
            (λ (l : slice_get firsts h.0 ≡ Some p). let k = report.all p (h.0, l) in (k.0, (k.1.0, get-left lines (begun_line ∷ []) k.0 k.1.0 k.1.1, k.1.2)))
            (λ (l : (k : ℕ) × (h.0 ≡ k + length firsts) × (slice_get (q ∷ []) k ≡ Some p)).
            let e : p ≡ q = (get_one q l.0 p l.2).1 in
            (0 + length lines, (begun_line, get-right lines (begun_line ∷ []) (0 + length lines) 0 begun_line refl refl, subst (λ t. has_sites sites (pair_sites sites q) t ≡ true) (sym e) (same-sites q))))
            (get-append firsts (q ∷ []) h.0 p h.1);
        order = λ i j s t l at_s at_t. ordered i j s t l (get-append lines (begun_line ∷ []) i s at_s) (get-append lines (begun_line ∷ []) j t at_t);
      }
        where
          other : (m : ℕ) (s : SiteRace) → slice_get lines m ≡ Some s → has_sites sites (line_sites s) q ≡ false
          other m s h = is_false (has_sites sites (line_sites s) q) (λ t. none m (s, h, sites-same (line_sites s) q t))

          no_pair : (n : ℕ) (p : RacingPair) → slice_get firsts n ≡ Some p → has_sites sites (pair_sites sites q) p ≡ false
          no_pair n p h = is_false (has_sites sites (pair_sites sites q) p) (λ t.
              let k = report.all p (n, h) in
              none k.0 (k.1.0, k.1.1, sites-same (line_sites k.1.0) p k.1.2 ∙ sym (sites-same (pair_sites sites q) p t)))

          new_find : find (has_sites sites (pair_sites sites q)) (firsts ++ q ∷ []) ≡ Some q
          new_find = find-append (has_sites sites (pair_sites sites q)) firsts (q ∷ []) ∙ ap (λ o. option_or o (find (has_sites sites (pair_sites sites q)) (q ∷ []))) (none-find (has_sites sites (pair_sites sites q)) firsts no_pair)
              ∙ ap (λ b. cond b (Some q) None) (same-sites q)

          new_number : c ≡ numbers_more (pair_sites sites q)
          new_number = sym (ap (λ n. n + cond (has_sites sites (pair_sites sites q) q) c 0) (no_number no_pair) ∙ ap (λ b. 0 + cond b c 0) (same-sites q) ∙ (let z : 0 + c ≡ c = omega arith in z))

          last_first : length firsts ≤ first_at sites (firsts ++ q ∷ []) begun_line
          last_first = at_least firsts no_pair
            where
              at_least : (ps : List RacingPair) → ((n : ℕ) (p : RacingPair) → slice_get ps n ≡ Some p → has_sites sites (pair_sites sites q) p ≡ false) → length ps ≤ position_or_len (has_sites sites (pair_sites sites q)) (ps ++ q ∷ [])
              at_least [] fails = omega arith
              at_least (p ∷ ps) fails =
                  let k = at_least ps (λ n p h. fails (suc n) p h) in
                  let e : position_or_len (has_sites sites (pair_sites sites q)) (p ∷ (ps ++ q ∷ [])) ≡ 1 + position_or_len (has_sites sites (pair_sites sites q)) (ps ++ q ∷ [])
                  = ap (λ b. cond (not b) (1 + position_or_len (has_sites sites (pair_sites sites q)) (ps ++ q ∷ [])) 0) (fails 0 p refl) in
                  omega (arith, k, e)

          ordered : (i j : ℕ) (s t : SiteRace) → i < j
              → (slice_get lines i ≡ Some s) ⊎ ((k : ℕ) × (i ≡ k + length lines) × (slice_get (begun_line ∷ []) k ≡ Some s))
              → (slice_get lines j ≡ Some t) ⊎ ((k : ℕ) × (j ≡ k + length lines) × (slice_get (begun_line ∷ []) k ≡ Some t))
              → first_at sites (firsts ++ q ∷ []) s < first_at sites (firsts ++ q ∷ []) t
          ordered i j s t l (inl a) (inl b) =
              let k = report.order i j s t l a b in let f = kept_first s (report.first i s a) in let g = kept_first t (report.first j t b) in omega (arith, k, f, g)
          ordered i j s t l (inl a) (inr b) =
              let f = kept_first s (report.first i s a) in
              let k = found-below (has_sites sites (line_sites s)) firsts (pair_of s) (report.first i s a) in
              let e : t ≡ begun_line = (get_one begun_line b.0 t b.2).1 in
              let g : first_at sites (firsts ++ q ∷ []) t ≡ first_at sites (firsts ++ q ∷ []) begun_line = ap (first_at sites (firsts ++ q ∷ [])) e in
              let h = last_first in
              omega (arith, k, f, g, h)
          ordered i j s t l (inr a) (inl b) = let w = slice_get_within lines j t b in let e = a.1 in absurd (omega (arith, w, e))
          ordered i j s t l (inr a) (inr b) = let e = a.1 in let f = b.1 in let g = (get_one begun_line a.0 s a.2).0 in let h = (get_one begun_line b.0 t b.2).0 in absurd (omega (arith, e, f, g, h))

  -- no pair of two sites is counted where no group begins with one
  none-number : (groups : List Group) (between : SitePair) → ((n : ℕ) (p : RacingPair) → slice_get (map first_pair groups) n ≡ Some p → has_sites sites between p ≡ false) → number_in sites groups between ≡ 0
  none-number [] between none = refl
  none-number (g ∷ groups) between none =
      let e = none-number groups between (λ n p h. none (suc n) p h) in
      let a = sum_by-cons (count_between sites between) g groups in
      let f : count_between sites between g ≡ 0 = ap (λ b. cond b g.count 0) (none 0 g.pair refl) in
      omega (arith, a, e, f)

  same_numbers : (firsts others : List RacingPair) (number count : SitePair → ℕ) (lines : List SiteRace) → firsts ≡ others → ((between : SitePair) → number between ≡ count between)
      → IsNumbered sites firsts number lines → IsNumbered sites others count lines
  same_numbers firsts others number count lines same each report = subst (λ (ps : List RacingPair). IsNumbered sites ps count lines) same (record {
    first = report.first;
    count = λ n r at. report.count n r at ∙ each (line_sites r);
    all = report.all;
    order = report.order;
  })

-- one group more, however it is added
pub added : (sites : List (List Site)) (groups : List Group) (g : Group) (old new : List SiteRace) → AddsGroup (pair_sites sites g.pair) g old new → IsGroupReport sites groups old → IsGroupReport sites (groups ++ g ∷ []) new
added sites groups g old new adds report = same_numbers sites (map first_pair groups ++ g.pair ∷ []) (map first_pair (groups ++ g ∷ [])) (numbers_more sites (map first_pair groups) (number_in sites groups) g.pair g.count) (number_in sites (groups ++ g ∷ [])) new
    (sym (map-append first_pair groups (g ∷ []))) (λ between. sym (sum_by_push (count_between sites between) groups g)) (by adds)
  where
    by : AddsGroup (pair_sites sites g.pair) g old new → IsNumbered sites (map first_pair groups ++ g.pair ∷ []) (numbers_more sites (map first_pair groups) (number_in sites groups) g.pair g.count) new
    by (counts n (s, h, same) (r, at, is)) =
        let e : s ≡ r = same_Some s r (sym h ∙ at) in
        subst (IsNumbered sites (map first_pair groups ++ g.pair ∷ []) (numbers_more sites (map first_pair groups) (number_in sites groups) g.pair g.count)) (sym is)
        (counted sites (map first_pair groups) (number_in sites groups) g.pair g.count old report n r at (subst (λ t. line_sites t ≡ pair_sites sites g.pair) e same))
    by (begins none is) = subst (IsNumbered sites (map first_pair groups ++ g.pair ∷ []) (numbers_more sites (map first_pair groups) (number_in sites groups) g.pair g.count)) (sym is)
        (begun sites (map first_pair groups) (number_in sites groups) g.pair g.count old report none (none-number sites groups (pair_sites sites g.pair)))

pub added-total : (sites : SitePair) (g : Group) (old new : List SiteRace) → AddsGroup sites g old new → sum_by count_of new ≡ sum_by count_of old + g.count
added-total sites g old new (counts n has (r, at, is)) = ap (sum_by count_of) is ∙ one_set old n r at
  where
    one_set : (lines : List SiteRace) (n : ℕ) (r : SiteRace) → slice_get lines n ≡ Some r → sum_by count_of (set lines n (counts_more g.count r)) ≡ sum_by count_of lines + g.count
    one_set [] n r h = absurd (cc)
    one_set (s ∷ lines) zero r h =
        let e : s ≡ r = same_Some s r h in
        let c : s.count ≡ r.count = ap (λ t. t.count) e in
        let a = sum_by-cons count_of (counts_more g.count r) lines in let b = sum_by-cons count_of s lines in omega (arith, a, b, c)
    one_set (s ∷ lines) (suc n) r h =
        let a = sum_by-cons count_of s (set lines n (counts_more g.count r)) in let b = sum_by-cons count_of s lines in let c = one_set lines n r h in omega (arith, a, b, c)
added-total sites g old new (begins none is) = ap (sum_by count_of) is ∙ sum_by_push count_of old (first_line sites g)

pub count-le : (lines : List SiteRace) (n : ℕ) (r : SiteRace) → slice_get lines n ≡ Some r → r.count ≤ sum_by count_of lines
count-le [] n r h = absurd (cc)
count-le (s ∷ lines) zero r h = let c : s.count ≡ r.count = ap (λ t. t.count) (same_Some s r h) in let b = sum_by-cons count_of s lines in omega (arith, b, c)
count-le (s ∷ lines) (suc n) r h = let c = count-le lines n r h in let b = sum_by-cons count_of s lines in omega (arith, b, c)

-- a line that counts more keeps its sites
pub sites-kept : (lines : List SiteRace) (n more : ℕ) (r : SiteRace) → slice_get lines n ≡ Some r → map line_sites (set lines n (counts_more more r)) ≡ map line_sites lines
sites-kept [] n more r h = absurd (cc)
sites-kept (s ∷ lines) zero more r h = ap (λ t. line_sites t ∷ map line_sites lines) (sym (same_Some s r h))
sites-kept (s ∷ lines) (suc n) more r h = ap (λ t. line_sites s ∷ t) (sites-kept lines n more r h)

-- `==` of the sites of two lines
abbrev pub same_pair : SitePair → SitePair → Bool
same_pair a b = same_site a.site b.site && same_site a.other b.other

pub pair-same : (a b : SitePair) → same_pair a b ≡ true → a ≡ b
pair-same a b h =
    let q = and_parts (same_site a.site b.site) (same_site a.other b.other) h in
    let s = site-same a.site b.site q.0 in
    let t = site-same a.other b.other q.1 in
    λ i. record { site = s i; other = t i }

pub same-pair : (a : SitePair) → same_pair a a ≡ true
same-pair a = and_from (same_site a.site a.site) (same_site a.other a.other) (same-site a.site) (same-site a.other)

-- sites that the index lacks are those of no line
pub no_line : (lines : List SiteRace) (sites : SitePair) → list_any (same_pair sites) (map line_sites lines) ≡ false → (n : ℕ) → HasSitesOf lines n sites → ⊥
no_line [] sites h n has = absurd (cc (has.1))
no_line (s ∷ lines) sites h zero (r, at, same) =
    let e : line_sites s ≡ sites = ap line_sites (same_Some s r at) ∙ same in
    let t : same_pair sites (line_sites s) ≡ true = subst (λ b. same_pair sites b ≡ true) (sym e) (same-pair sites) in
    false≢true (sym h ∙ ap (λ b. b || list_any (same_pair sites) (map line_sites lines)) t)
no_line (s ∷ lines) sites h (suc n) has = no_line lines sites (later (same_pair sites (line_sites s)) (list_any (same_pair sites) (map line_sites lines)) h) n has
  where
    later : (a b : Bool) → (a || b) ≡ false → b ≡ false
    later true b h = absurd (false≢true (sym h))
    later false b h = h

-- the line whose sites the index has there
pub line_at : (lines : List SiteRace) (n : ℕ) (s : SitePair) → slice_get (map line_sites lines) n ≡ Some s → HasSitesOf lines n s
line_at [] n s h = absurd (cc)
line_at (r ∷ lines) zero s h = (r, refl, same_Some (line_sites r) s h)
line_at (r ∷ lines) (suc n) s h = line_at lines n s h
