-- An execution has one list of races, and pairs have one report.
use Rattle.std.proofs.Common.{◌≡◌, ℕ, zero, suc, ◌<◌, List, [], ◌∷◌, Bool, cond, true, false, slice_get, Some, refl, sym, ap, ◌∙◌, subst, arith, ⊎_elim}
use Rattle.std.specs.Prelude.{count_by}
use Rattle.std.specs.List.{find}
use Rattle.std.proofs.lemmas.Bool.{false≢true}
use Rattle.std.proofs.lemmas.List.Folds.{find_at}
use Rattle.std.proofs.lemmas.Option.{same_Some}
use Rattle.wm_event.specs.Event.{writes}
use Rattle.wm_event.specs.Execution.{Execution}
use Rattle.wm_races.specs.Races.{ComesBefore, IsIn, IsRaceList, IsRacingPair}
use Rattle.wm_races.specs.Races.ComesBefore.{by_event, by_byte, by_write}
use Rattle.wm_races.specs.Report.{IsLine, IsReport, OneReport, first_at, has_sites, line_sites, pair_of}
use Rattle.wm_races.specs.declared.pair.RacingPair.{RacingPair}
use Rattle.wm_races.specs.declared.site.Site.{Site}
use Rattle.wm_races.specs.declared.site.SiteRace.{SiteRace}
use Rattle.wm_races.proofs.ReportLemmas.{sites-same}

module _ {X : Type 0} (Before : X → X → Type 0) (never_both : (a b : X) → Before a b → Before b a → ⊥) where
  -- each item comes before those after it
  abbrev pub InOrder : List X → Type 0
  InOrder xs = (m n : ℕ) (a b : X) → m < n → slice_get xs m ≡ Some a → slice_get xs n ≡ Some b → Before a b

  abbrev pub AreAllIn : List X → List X → Type 0
  AreAllIn xs ys = (n : ℕ) (a : X) → slice_get xs n ≡ Some a → (m : ℕ) × (slice_get ys m ≡ Some a)

  tail-order : (x : X) (xs : List X) → InOrder (x ∷ xs) → InOrder xs
  tail-order x xs up m n a b l at_a at_b = up (suc m) (suc n) a b (omega arith) at_a at_b

  same-head : (x y : X) (xs ys : List X) → InOrder (x ∷ xs) → InOrder (y ∷ ys) → AreAllIn (x ∷ xs) (y ∷ ys) → AreAllIn (y ∷ ys) (x ∷ xs) → x ≡ y
  same-head x y xs ys up_x up_y there back = go (there 0 x refl) (back 0 y refl)
    where
      go : (m : ℕ) × (slice_get (y ∷ ys) m ≡ Some x) → (n : ℕ) × (slice_get (x ∷ xs) n ≡ Some y) → x ≡ y
      go (zero, at_x) (n, at_y) = sym (same_Some y x at_x)
      go (suc m, at_x) (zero, at_y) = same_Some x y at_y
      go (suc m, at_x) (suc n, at_y) = absurd (never_both x y (up_x 0 (suc n) x y (omega arith) refl at_y) (up_y 0 (suc m) y x (omega arith) refl at_x))

  tail-in : (x y : X) (xs ys : List X) → x ≡ y → InOrder (x ∷ xs) → AreAllIn (x ∷ xs) (y ∷ ys) → AreAllIn xs ys
  tail-in x y xs ys e up there n a at = go (there (suc n) a at)
    where
      go : (m : ℕ) × (slice_get (y ∷ ys) m ≡ Some a) → (m : ℕ) × (slice_get ys m ≡ Some a)
      go (zero, at_a) =
          let same : x ≡ a = e ∙ same_Some y a at_a in
          let b = up 0 (suc n) x a (omega arith) refl at in
          let c : Before x x = subst (Before x) (sym same) b in
          absurd (never_both x x c c)
      go (suc m, at_a) = (m, at_a)

  -- two lists in order that have the same items are one
  pub one-order : (xs ys : List X) → InOrder xs → InOrder ys → AreAllIn xs ys → AreAllIn ys xs → xs ≡ ys
  one-order [] [] up_x up_y there back = refl
  one-order [] (y ∷ ys) up_x up_y there back = let h = (back 0 y refl).1 in absurd (cc)
  one-order (x ∷ xs) [] up_x up_y there back = let h = (there 0 x refl).1 in absurd (cc)
  one-order (x ∷ xs) (y ∷ ys) up_x up_y there back =
      let e = same-head x y xs ys up_x up_y there back in
      let rest = one-order xs ys (tail-order x xs up_x) (tail-order y ys up_y) (tail-in x y xs ys e up_x there) (tail-in y x ys xs (sym e) up_y back) in
      λ i. e i ∷ rest i

pub never-both : (x : Execution) (p q : RacingPair) → ComesBefore x p q → ComesBefore x q p → ⊥
never-both x p q (by_event a) (by_event b) = omega (arith, a, b)
never-both x p q (by_event a) (by_byte e b) = omega (arith, a, e)
never-both x p q (by_event a) (by_write e f b) = omega (arith, a, e)
never-both x p q (by_byte d a) (by_event b) = omega (arith, d, b)
never-both x p q (by_byte d a) (by_byte e b) = omega (arith, a, b)
never-both x p q (by_byte d a) (by_write e f b) = omega (arith, a, f)
never-both x p q (by_write d c a) (by_event b) = omega (arith, d, b)
never-both x p q (by_write d c a) (by_byte e b) = omega (arith, c, b)
never-both x p q (by_write d c a) (by_write e f b) = omega (arith, a, b)

-- a race has one name
pub one-name : (x : Execution) (p : RacingPair) → IsRacingPair x p → IsRacingPair x (record { event = p.write; write = p.event }) → ⊥
one-name x p racing turned =
    let f : turned.race.first ≡ racing.race.second = same_Some turned.race.first racing.race.second (sym turned.race.is_first ∙ racing.race.is_second) in
    let s : turned.race.second ≡ racing.race.first = same_Some turned.race.second racing.race.first (sym turned.race.is_second ∙ racing.race.is_first) in
    ⊎_elim
    (λ (h : writes racing.race.first ≡ false). false≢true (sym h ∙ ap writes (sym s) ∙ turned.write))
    (λ (l : x.place_of p.write < x.place_of p.event). ⊎_elim
    (λ (h : writes turned.race.first ≡ false). false≢true (sym h ∙ ap writes f ∙ racing.write))
    (λ (k : x.place_of p.event < x.place_of p.write). omega (arith, l, k))
    turned.event)
    racing.event

pairs-in : (x : Execution) (ps qs : List RacingPair) → IsRaceList x ps → IsRaceList x qs → AreAllIn (ComesBefore x) (never-both x) ps qs
pairs-in x ps qs first second n p at =
    let racing = first.sound p (n, at) in
    ⊎_elim
    (λ (h : IsIn qs p). h)
    (λ (h : IsIn qs (record { event = p.write; write = p.event })). absurd (one-name x p racing (second.sound (record { event = p.write; write = p.event }) h)))
    (second.complete p.event p.write racing.race)

pub one-race-list : (x : Execution) (ps qs : List RacingPair) → IsRaceList x ps → IsRaceList x qs → ps ≡ qs
one-race-list x ps qs first second = one-order (ComesBefore x) (never-both x) ps qs first.sorted second.sorted (pairs-in x ps qs first second) (pairs-in x qs ps second first)

-- what is found passes the test
pub found-passes : {X : Type 0} (p : X → Bool) (xs : List X) (a : X) → find p xs ≡ Some a → p a ≡ true
found-passes p [] a h = absurd (cc)
found-passes {X} p (x ∷ xs) a h = by (p x) refl h (found-passes p xs a)
  where
    by : (b : Bool) → p x ≡ b → cond b (Some x) (find p xs) ≡ Some a → (find p xs ≡ Some a → p a ≡ true) → p a ≡ true
    by true passes h rest = ap p (sym (same_Some x a h)) ∙ passes
    by false fails h rest = rest h

module _ (sites : List (List Site)) (pairs : List RacingPair) where
  abbrev pub ComesFirst : SiteRace → SiteRace → Type 0
  ComesFirst r s = first_at sites pairs r < first_at sites pairs s

  never-first : (r s : SiteRace) → ComesFirst r s → ComesFirst s r → ⊥
  never-first r s a b = omega (arith, a, b)

  -- two lines of equal sites state the same
  one-line : (r s : SiteRace) → IsLine sites pairs r → IsLine sites pairs s → line_sites r ≡ line_sites s → r ≡ s
  one-line r s line other same =
      let p : pair_of r ≡ pair_of s = same_Some (pair_of r) (pair_of s) (sym line.first ∙ ap (λ b. find (has_sites sites b) pairs) same ∙ other.first) in
      let c : r.count ≡ s.count = line.count ∙ ap (λ b. count_by (has_sites sites b) pairs) same ∙ sym other.count in
      λ i. record { site = (same i).site; other = (same i).other; event = (p i).event; write = (p i).write; count = c i }

  lines-in : (ls ms : List SiteRace) → IsReport sites pairs ls → IsReport sites pairs ms → AreAllIn ComesFirst never-first ls ms
  lines-in ls ms first second n r at =
      let line = first.each n r at in
      let there : slice_get pairs (first_at sites pairs r) ≡ Some (pair_of r) = sym (find_at (has_sites sites (line_sites r)) pairs) ∙ line.first in
      let k = second.all (pair_of r) (first_at sites pairs r, there) in
      let s = k.1.0 in
      let same : line_sites r ≡ line_sites s = sites-same sites (line_sites r) (pair_of r) (found-passes (has_sites sites (line_sites r)) pairs (pair_of r) line.first) ∙ sym (sites-same sites (line_sites s) (pair_of r) k.1.2) in
      let e : r ≡ s = one-line r s line (second.each k.0 s k.1.1) same in
      (k.0, k.1.1 ∙ ap Some (sym e))

  pub one-report : (ls ms : List SiteRace) → IsReport sites pairs ls → IsReport sites pairs ms → ls ≡ ms
  one-report ls ms first second = one-order ComesFirst never-first ls ms first.order second.order (lines-in ls ms first second) (lines-in ms ls second first)

pub one-race-report : OneReport
one-race-report x sites lines other report same =
    let e : same.pairs ≡ report.pairs = one-race-list x same.pairs report.pairs same.list report.list in
    one-report sites report.pairs lines other report.report (subst (λ (ps : List RacingPair). IsReport sites ps other) e same.report)
