-- Groups of racing pairs, put after one another or between others.
use Rattle.std.proofs.Common.{◌≡◌, ◌≢◌, ℕ, zero, suc, ◌+◌, ◌<◌, ◌≤◌, List, [], ◌∷◌, ◌++◌, Bool, cond, ◌&&◌, length, slice_get, Some, refl, sym, ap, ◌∙◌, subst, arith, ◌⊎◌, inl, inr, ⊎_elim}
use Rattle.std.specs.Prelude.{count_by, sum_by}
use Rattle.std.specs.List.{insert}
use Rattle.std.proofs.lemmas.Bool.{cases_lt}
use Rattle.std.proofs.lemmas.List.{length-append}
use Rattle.std.proofs.lemmas.List.Edits.{length-insert}
use Rattle.std.proofs.lemmas.List.Sums.{sum_by-append, sum_by-cons, sum_by-insert}
use Rattle.std.proofs.lemmas.Option.{same_Some, slice_get_within}
use Rattle.wm_event.specs.Execution.{Execution}
use Rattle.wm_event.specs.LoggedRun.{LoggedRun, execution}
use Rattle.wm_event.specs.Shape.{ListsEachOnce}
use Rattle.wm_races.specs.Groups.{AreGroupsOf, AreInOrder, ArePlaced, Gathers, Inserts, IsAtByte, IsNoLater, count_between, size_of}
use Rattle.wm_races.specs.Listing.{Lists, write_place}
use Rattle.wm_races.specs.Parts.{IsGroupOf}
use Rattle.wm_races.specs.Races.{ComesBefore, IsIn, IsRacingPair}
use Rattle.wm_races.specs.Races.ComesBefore.{by_event, by_byte, by_write}
use Rattle.wm_races.specs.Report.{has_sites, pair_sites, same_site}
use Rattle.wm_races.specs.declared.group.Group.{Group}
use Rattle.wm_races.specs.declared.pair.RacingPair.{RacingPair}
use Rattle.wm_races.specs.declared.site.Site.{Site}
use Rattle.wm_races.specs.declared.site.SitePair.{SitePair}
use Rattle.wm_races.proofs.ListLemmas.{ComesFrom, IsCut, count-all, cut-rising, get-append, get-insert, get-left, get-right, get_one, insert-get, insert-get_other}
use Rattle.wm_races.proofs.ListingLemmas.{Implies, lists_append, lists_none, lists_one, lists_same}
use Rattle.wm_races.proofs.RaceLemmas.{stands}

nothing : {X : Type 0} (n : ℕ) (x : X) → slice_get [] n ≡ Some x → ⊥
nothing n x h = cc

-- a pair as a group
abbrev pub single : RacingPair → ℕ → Group
single q place = record { pair = q; place = place; count = 1 }

module _ (x : Execution) (sites : List (List Site)) where
  pub gathers_none : Gathers x sites [] []
  gathers_none = record {
    counts = λ between. refl;
    total = refl;
    among = λ n g at. absurd (nothing n g at);
    covered = λ p is. absurd (nothing is.0 p is.1);
  }

  pub gathers_append : (groups more : List Group) (pairs others : List RacingPair) → Gathers x sites groups pairs → Gathers x sites more others → Gathers x sites (groups ++ more) (pairs ++ others)
  gathers_append groups more pairs others first second = record {
    counts = λ between.
        let a = sum_by-append (count_between sites between) groups more in
        let b = sum_by-append (λ p. cond (has_sites sites between p) 1 0) pairs others in
        let c = first.counts between in
        let d = second.counts between in
        omega (arith, a, b, c, d);
    total = (let a = sum_by-append size_of groups more in let b = length-append pairs others in let c = first.total in let d = second.total in omega (arith, a, b, c, d));
    among = λ n g at. ⊎_elim
        (λ (l : slice_get groups n ≡ Some g). let k = first.among n g l in (k.0, get-left pairs others k.0 g.pair k.1))
        (λ (r : (k : ℕ) × (n ≡ k + length groups) × (slice_get more k ≡ Some g)). let k = second.among r.0 g r.2 in (k.0 + length pairs, get-right pairs others (k.0 + length pairs) k.0 g.pair refl k.1))
        (get-append groups more n g at);
    covered = λ p is. ⊎_elim
        (λ (l : slice_get pairs is.0 ≡ Some p). let k = first.covered p (is.0, l) in (k.0, (k.1.0, get-left groups more k.0 k.1.0 k.1.1, k.1.2, k.1.3)))
        (λ (r : (k : ℕ) × (is.0 ≡ k + length pairs) × (slice_get others k ≡ Some p)).
        let k = second.covered p (r.0, r.2) in
        (k.0 + length groups, (k.1.0, get-right groups more (k.0 + length groups) k.0 k.1.0 refl k.1.1, k.1.2, k.1.3)))
        (get-append pairs others is.0 p is.1);
  }

  pub gathers_one : (q : RacingPair) (place : ℕ) → Gathers x sites (single q place ∷ []) (q ∷ [])
  gathers_one q place = record {
    counts = λ between. refl;
    total = refl;
    among = λ n g at. (0, ap (λ (h : Group). Some h.pair) (sym (get_one (single q place) n g at).1));
    covered = λ p is. (0, (single q place, refl, ap (pair_sites sites) (sym (get_one q is.0 p is.1).1), inl (sym (get_one q is.0 p is.1).1)));
  }

module _ (run : LoggedRun) (sites : List (List Site)) where
  pub groups_none : (P : RacingPair → Type 0) → ((p : RacingPair) → IsRacingPair (execution run) p → P p → ⊥) → AreGroupsOf run sites P []
  groups_none P none = record {
    pairs = [];
    list = lists_none run P none;
    gathers = gathers_none (execution run) sites;
    order = λ m n g h l at_g. absurd (nothing m g at_g);
  }

  pub groups_one : (q : RacingPair) (place : ℕ) → IsRacingPair (execution run) q → AreGroupsOf run sites (λ p. p ≡ q) (single q place ∷ [])
  groups_one q place racing = record {
    pairs = q ∷ [];
    list = lists_one run q racing;
    gathers = gathers_one (execution run) sites q place;
    order = λ m n g h l at_g at_h.
        let a = (get_one (single q place) m g at_g).0 in
        let b = (get_one (single q place) n h at_h).0 in
        absurd (omega (arith, a, b, l));
  }

  pub groups_same : (P Q : RacingPair → Type 0) (groups : List Group) → Implies run P Q → Implies run Q P → AreGroupsOf run sites P groups → AreGroupsOf run sites Q groups
  groups_same P Q groups to from is = record {
    pairs = is.pairs;
    list = lists_same run P Q is.pairs to from is.list;
    gathers = is.gathers;
    order = is.order;
  }

  -- a group begins with one of its pairs
  pub begins_with : (P : RacingPair → Type 0) (groups : List Group) (is : AreGroupsOf run sites P groups) (n : ℕ) (g : Group) → slice_get groups n ≡ Some g → IsRacingPair (execution run) g.pair × P g.pair
  begins_with P groups is n g at = let k = is.gathers.among n g at in is.list.sound k.0 g.pair k.1

  pub groups_append : (P Q R : RacingPair → Type 0) (groups more : List Group)
      → ((p q : RacingPair) → IsRacingPair (execution run) p → IsRacingPair (execution run) q → P p → Q q → ComesBefore (execution run) p q)
      → Implies run P R → Implies run Q R → Implies run R (λ p. P p ⊎ Q p) → AreGroupsOf run sites P groups → AreGroupsOf run sites Q more → AreGroupsOf run sites R (groups ++ more)
  groups_append P Q R groups more before left right either first second = record {
    pairs = first.pairs ++ second.pairs;
    list = lists_append run P Q R first.pairs second.pairs before left right either first.list second.list;
    gathers = gathers_append (execution run) sites groups more first.pairs second.pairs first.gathers second.gathers;
    order = λ m n g h l at_g at_h. ordered m n g h l (get-append groups more m g at_g) (get-append groups more n h at_h);
  }
    where
      ordered : (m n : ℕ) (g h : Group) → m < n → (slice_get groups m ≡ Some g) ⊎ ((k : ℕ) × (m ≡ k + length groups) × (slice_get more k ≡ Some g))
          → (slice_get groups n ≡ Some h) ⊎ ((k : ℕ) × (n ≡ k + length groups) × (slice_get more k ≡ Some h)) → ComesBefore (execution run) g.pair h.pair
      ordered m n g h l (inl a) (inl b) = first.order m n g h l a b
      ordered m n g h l (inl a) (inr b) =
          let s = begins_with P groups first m g a in
          let t = begins_with Q more second b.0 h b.2 in
          before g.pair h.pair s.0 t.0 s.1 t.1
      ordered m n g h l (inr a) (inl b) = let w = slice_get_within groups n h b in let e = a.1 in absurd (omega (arith, w, e, l))
      ordered m n g h l (inr a) (inr b) = let e = a.1 in let f = b.1 in second.order a.0 b.0 g h (omega (arith, e, f, l)) a.2 b.2

  module _ (once : ListsEachOnce run.log run.witness.order) (j a : ℕ) where
    -- pairs of one event and one byte differ in the place of the write
    pub same_place : (p q : RacingPair) → IsRacingPair (execution run) p → IsRacingPair (execution run) q → IsAtByte run j a p → IsAtByte run j a q → write_place run p ≡ write_place run q → p ≡ q
    same_place p q racing_p racing_q at_p at_q same =
        let s : p.event ≡ q.event = same_Some p.event q.event (sym (stands run once p.event racing_p.race.first j racing_p.race.is_first at_p.0) ∙ stands run once q.event racing_q.race.first j racing_q.race.is_first at_q.0) in
        let o = write_place run q in
        let t : p.write ≡ q.write = same_Some p.write q.write (sym (stands run once p.write racing_p.race.second o racing_p.race.is_second same) ∙ stands run once q.write racing_q.race.second o racing_q.race.is_second refl) in
        λ i. record { event = s i; write = t i }

    pub before_by_place : (p q : RacingPair) → IsAtByte run j a p → IsAtByte run j a q → write_place run p < write_place run q → ComesBefore (execution run) p q
    before_by_place p q at_p at_q l = by_write (at_p.0 ∙ sym at_q.0) (at_p.1 ∙ sym at_q.1) l

    place_before : (p q : RacingPair) → IsAtByte run j a p → IsAtByte run j a q → ComesBefore (execution run) p q → write_place run p < write_place run q
    place_before p q at_p at_q (by_event l) = let e = at_p.0 in let f = at_q.0 in absurd (omega (arith, e, f, l))
    place_before p q at_p at_q (by_byte d l) = let e = at_p.1 in let f = at_q.1 in absurd (omega (arith, e, f, l))
    place_before p q at_p at_q (by_write d e l) = l

    -- of these pairs there are no more than places
    pub few_pairs : (xs : List RacingPair) (P : RacingPair → Type 0) → Lists run P xs → Implies run P (IsAtByte run j a) → length xs ≤ length run.witness.order
    few_pairs xs P lists at_byte = let few : length xs + 0 ≤ length run.witness.order = at_most xs 0 (length run.witness.order)
        (λ m n p q l at_p at_q.
        let s = lists.sound m p at_p in
        let t = lists.sound n q at_q in
        place_before p q (at_byte p s.0 s.1) (at_byte q t.0 t.1) (lists.sorted m n p q l at_p at_q))
        (λ n p at. (omega arith, (let s = (lists.sound n p at).0 in slice_get_within run.witness.order (write_place run p) p.write (stands run once p.write s.race.second (write_place run p) s.race.is_second refl))))
        (omega arith) in
        omega (arith, few)
      where
        at_most : (ps : List RacingPair) (low high : ℕ) → ((m n : ℕ) (p q : RacingPair) → m < n → slice_get ps m ≡ Some p → slice_get ps n ≡ Some q → write_place run p < write_place run q)
            → ((n : ℕ) (p : RacingPair) → slice_get ps n ≡ Some p → (low ≤ write_place run p) × (write_place run p < high)) → low ≤ high → length ps + low ≤ high
        at_most [] low high rises within l = omega (arith, l)
        at_most (p ∷ ps) low high rises within l =
            let w = within 0 p refl in
            let b = w.0 in
            let c = w.1 in
            let r = at_most ps (write_place run p + 1) high (λ m n p q l at_p at_q. rises (suc m) (suc n) p q (omega (arith, l)) at_p at_q)
            (λ n q at. (let k = rises 0 (suc n) p q (omega arith) refl at in omega (arith, k), (within (suc n) q at).1)) (omega (arith, c)) in
            omega (arith, r, b)

    pub few_groups : (groups : List Group) → AreGroupsOf run sites (IsAtByte run j a) groups → sum_by size_of groups ≤ length run.witness.order
    few_groups groups is =
        let few = few_pairs is.pairs (IsAtByte run j a) is.list (λ p racing h. h) in
        let total = is.gathers.total in
        omega (arith, few, total)

    -- one pair between the others
    lists_insert : (P : RacingPair → Type 0) (xs : List RacingPair) (y : RacingPair) → Lists run P xs → Implies run P (IsAtByte run j a) → IsRacingPair (execution run) y → IsAtByte run j a y → (P y → ⊥)
        → (i : ℕ) × (i ≤ length xs) × Lists run (λ p. P p ⊎ (p ≡ y)) (insert xs i y)
    lists_insert P xs y lists at_byte racing at_y other =
        let cut = cut-rising (write_place run) (write_place run y) xs
        (λ m n p q l at_p at_q.
        let s = lists.sound m p at_p in
        let t = lists.sound n q at_q in
        place_before p q (at_byte p s.0 s.1) (at_byte q t.0 t.1) (lists.sorted m n p q l at_p at_q))
        (λ n p at e.
        let s = lists.sound n p at in
        other (subst P (same_place p y s.0 racing (at_byte p s.0 s.1) at_y e) s.1)) in (
          cut.0,
          cut.1.within,
          record {
            sound = λ n p at. found cut.0 cut.1 n p (get-insert xs cut.0 y n p cut.1.within at);
            complete = λ p racing_p is. ⊎_elim
                (λ (h : P p). let k = lists.complete p racing_p h in insert-get_other xs cut.0 y k.0 p k.1)
                (λ (e : p ≡ y). let k = insert-get xs cut.0 y cut.1.within in (k.0, k.1 ∙ ap Some (sym e)))
                is;
            sorted = λ m n p q l at_p at_q. ordered cut.0 cut.1 m n p q l (get-insert xs cut.0 y m p cut.1.within at_p) (get-insert xs cut.0 y n q cut.1.within at_q);
          },
        )
      where
        found : (i : ℕ) → IsCut (write_place run) (write_place run y) xs i → (n : ℕ) (p : RacingPair) → ComesFrom xs i y n p → IsRacingPair (execution run) p × (P p ⊎ (p ≡ y))
        found i cut n p (inl (e, s)) = (subst (IsRacingPair (execution run)) (sym s) racing, inr s)
        found i cut n p (inr (inl (l, at))) = let s = lists.sound n p at in (s.0, inl s.1)
        found i cut n p (inr (inr (m, e, l, at))) = let s = lists.sound m p at in (s.0, inl s.1)

        at_of : (n : ℕ) (p : RacingPair) → slice_get xs n ≡ Some p → IsAtByte run j a p
        at_of n p at = let s = lists.sound n p at in at_byte p s.0 s.1

        at_new : (p : RacingPair) → p ≡ y → IsAtByte run j a p
        at_new p e = subst (IsAtByte run j a) (sym e) at_y

        ordered : (i : ℕ) → IsCut (write_place run) (write_place run y) xs i → (m n : ℕ) (p q : RacingPair) → m < n → ComesFrom xs i y m p → ComesFrom xs i y n q → ComesBefore (execution run) p q
        ordered i cut m n p q l (inl (e, s)) (inl (f, t)) = absurd (omega (arith, e, f, l))
        ordered i cut m n p q l (inl (e, s)) (inr (inl (k, at))) = absurd (omega (arith, e, k, l))
        ordered i cut m n p q l (inl (e, s)) (inr (inr (o, f, k, at))) =
            let above = cut.above o q k at in
            let same = ap (write_place run) s in
            before_by_place p q (at_new p s) (at_of o q at) (omega (arith, above, same))
        ordered i cut m n p q l (inr (inl (h, at))) (inl (f, t)) =
            let below = cut.below m p h at in
            let same = ap (write_place run) t in
            before_by_place p q (at_of m p at) (at_new q t) (omega (arith, below, same))
        ordered i cut m n p q l (inr (inr (o, e, h, at))) (inl (f, t)) = absurd (omega (arith, e, f, h, l))
        ordered i cut m n p q l (inr (inl (h, at))) (inr (inl (k, at_q))) = lists.sorted m n p q l at at_q
        ordered i cut m n p q l (inr (inl (h, at))) (inr (inr (o, f, k, at_q))) = lists.sorted m o p q (omega (arith, h, k)) at at_q
        ordered i cut m n p q l (inr (inr (o, e, h, at))) (inr (inl (k, at_q))) = absurd (omega (arith, e, h, k, l))
        ordered i cut m n p q l (inr (inr (o, e, h, at))) (inr (inr (u, f, k, at_q))) = lists.sorted o u p q (omega (arith, e, f, l)) at at_q

    -- the pairs of both lists, which have none in common, as one list
    pub record IsJoined (P : RacingPair → Type 0) (xs ys zs : List RacingPair) : Type 0 where
      pub list : Lists run (λ p. P p ⊎ IsIn ys p) zs
      pub counts : (t : RacingPair → Bool) → count_by t zs ≡ count_by t xs + count_by t ys
      pub size : length zs ≡ length xs + length ys

    lists_join : (P : RacingPair → Type 0) (xs ys : List RacingPair) → Lists run P xs → Implies run P (IsAtByte run j a)
        → ((n : ℕ) (p : RacingPair) → slice_get ys n ≡ Some p → IsRacingPair (execution run) p × IsAtByte run j a p × (P p → ⊥))
        → ((m n : ℕ) (p q : RacingPair) → m < n → slice_get ys m ≡ Some p → slice_get ys n ≡ Some q → p ≢ q)
        → (zs : List RacingPair) × IsJoined P xs ys zs
    lists_join P xs [] lists at_byte fresh distinct = (
      xs,
      record {
        list = lists_same run P (λ p. P p ⊎ IsIn [] p) xs (λ p racing h. inl h) (λ p racing h. ⊎_elim (λ (l : P p). l) (λ (r : IsIn [] p). absurd (nothing r.0 p r.1)) h) lists;
        counts = λ t. (let e : count_by t xs ≡ count_by t xs + 0 = omega arith in e);
        size = omega arith;
      },
    )
    lists_join P xs (y ∷ ys) lists at_byte fresh distinct =
        let new = fresh 0 y refl in
        let one = lists_insert P xs y lists at_byte new.0 new.1 new.2 in
        let more = insert xs one.0 y in
        let rest = lists_join (λ p. P p ⊎ (p ≡ y)) more ys one.2
        (λ p racing h. ⊎_elim (λ (l : P p). at_byte p racing l) (λ (e : p ≡ y). subst (IsAtByte run j a) (sym e) new.1) h)
        (λ n p at.
        let f = fresh (suc n) p at in
        (f.0, f.1, λ h. ⊎_elim (λ (l : P p). f.2 l) (λ (e : p ≡ y). distinct 0 (suc n) y p (omega arith) refl at (sym e)) h))
        (λ m n p q l at_p at_q. distinct (suc m) (suc n) p q (omega (arith, l)) at_p at_q) in (
          rest.0,
          record {
            list = lists_same run (λ p. (P p ⊎ (p ≡ y)) ⊎ IsIn ys p) (λ p. P p ⊎ IsIn (y ∷ ys) p) rest.0
                (λ p racing h. ⊎_elim
                (λ (l : P p ⊎ (p ≡ y)). ⊎_elim (λ (k : P p). inl k) (λ (e : p ≡ y). inr (0, ap Some (sym e))) l)
                (λ (r : IsIn ys p). inr (suc r.0, r.1)) h)
                (λ p racing h. ⊎_elim
                (λ (l : P p). inl (inl l))
                (λ (r : IsIn (y ∷ ys) p). among p r.0 r.1) h)
                rest.1.list;
            counts = λ t.
                let a = rest.1.counts t in
                let b = sum_by-insert (λ p. cond (t p) 1 0) xs one.0 y in
                let c = sum_by-cons (λ p. cond (t p) 1 0) y ys in
                omega (arith, a, b, c);
            size = (let a = rest.1.size in let b = length-insert xs one.0 y one.1 in omega (arith, a, b));
          },
        )
      where
        among : (p : RacingPair) (n : ℕ) → slice_get (y ∷ ys) n ≡ Some p → (P p ⊎ (p ≡ y)) ⊎ IsIn ys p
        among p zero at = inl (inr (sym (same_Some y p at)))
        among p (suc n) at = inr (n, at)

    -- a group of pairs between others
    module _ (P Q : RacingPair → Type 0) (groups more : List Group) (g : Group) (is : AreGroupsOf run sites P groups) (of_group : IsGroupOf run Q g)
        (at_p : Implies run P (IsAtByte run j a)) (at_q : Implies run Q (IsAtByte run j a)) (apart : (p : RacingPair) → IsRacingPair (execution run) p → P p → Q p → ⊥)
        (one_site : (p : RacingPair) → IsRacingPair (execution run) p → Q p → pair_sites sites p ≡ pair_sites sites g.pair)
        (placed : ArePlaced run groups) (inserts : Inserts g groups more) where
      its_pair : (n : ℕ) (p : RacingPair) → slice_get of_group.pairs n ≡ Some p → IsRacingPair (execution run) p × Q p
      its_pair n p at = of_group.list.sound n p at

      joined : (zs : List RacingPair) × IsJoined P is.pairs of_group.pairs zs
      joined = lists_join P is.pairs of_group.pairs is.list at_p
          (λ n p at. let s = its_pair n p at in (s.0, at_q p s.0 s.1, λ h. apart p s.0 h s.1))
          (λ m n p q l at_m at_n e.
          let s = its_pair m p at_m in
          let t = its_pair n q at_n in
          let k = place_before p q (at_q p s.0 s.1) (at_q q t.0 t.1) (of_group.list.sorted m n p q l at_m at_n) in
          let f = ap (write_place run) e in
          omega (arith, k, f))

      come : (n : ℕ) (h : Group) → slice_get more n ≡ Some h → ComesFrom groups inserts.at g n h
      come n h at = get-insert groups inserts.at g n h inserts.within (ap (λ (gs : List Group). slice_get gs n) (sym inserts.is) ∙ at)

      first_racing : IsRacingPair (execution run) g.pair × Q g.pair
      first_racing = its_pair 0 g.pair of_group.first

      old : (n : ℕ) (h : Group) → slice_get groups n ≡ Some h → IsRacingPair (execution run) h.pair × P h.pair
      old n h at = begins_with P groups is n h at

      differ : (n : ℕ) (h : Group) → slice_get groups n ≡ Some h → write_place run h.pair ≢ write_place run g.pair
      differ n h at e =
          let s = old n h at in
          let f = first_racing in
          apart g.pair f.0 (subst P (same_place h.pair g.pair s.0 f.0 (at_p h.pair s.0 s.1) (at_q g.pair f.0 f.1) e) s.1) f.1

      counted : (between : SitePair) → count_by (has_sites sites between) of_group.pairs ≡ count_between sites between g
      counted between =
          count-all (has_sites sites between) of_group.pairs (has_sites sites between g.pair)
          (λ n p at. let s = its_pair n p at in ap (λ (t : SitePair). same_site between.site t.site && same_site between.other t.other) (one_site p s.0 s.1))
          ∙ ap (λ (k : ℕ). cond (has_sites sites between g.pair) k 0) (sym of_group.count)

      gathered : Gathers (execution run) sites more joined.0
      unfolding joined
      gathered = record {
        counts = λ between.
            let a = ap (sum_by (count_between sites between)) inserts.is ∙ sum_by-insert (count_between sites between) groups inserts.at g in
            let b = is.gathers.counts between in
            let c = joined.1.counts (has_sites sites between) in
            let d = counted between in
            omega (arith, a, b, c, d);
        total = (let a = ap (sum_by size_of) inserts.is ∙ sum_by-insert size_of groups inserts.at g in let b = is.gathers.total in let c = joined.1.size in let d = of_group.count in omega (arith, a, b, c, d));
        among = λ n h at. begun n h (come n h at);
        covered = λ p where_is.
            let s = joined.1.list.sound where_is.0 p where_is.1 in
            ⊎_elim
            (λ (l : P p).
            let k = is.gathers.covered p (is.list.complete p s.0 l) in
            let m = insert-get_other groups inserts.at g k.0 k.1.0 k.1.1 in
            (m.0, (k.1.0, ap (λ (gs : List Group). slice_get gs m.0) inserts.is ∙ m.1, k.1.2, k.1.3)))
            (λ (r : IsIn of_group.pairs p).
            let m = insert-get groups inserts.at g inserts.within in
            let t = its_pair r.0 p r.1 in
            (m.0, (g, ap (λ (gs : List Group). slice_get gs m.0) inserts.is ∙ m.1, sym (one_site p t.0 t.1), no_later r.0 p r.1)))
            s.1;
      }
        where
          begun : (n : ℕ) (h : Group) → ComesFrom groups inserts.at g n h → IsIn joined.0 h.pair
          begun n h (inl (e, s)) = joined.1.list.complete h.pair (subst (λ (k : Group). IsRacingPair (execution run) k.pair) (sym s) first_racing.0) (inr (0, of_group.first ∙ ap (λ (k : Group). Some k.pair) (sym s)))
          begun n h (inr (inl (l, at))) = let s = old n h at in joined.1.list.complete h.pair s.0 (inl s.1)
          begun n h (inr (inr (m, e, l, at))) = let s = old m h at in joined.1.list.complete h.pair s.0 (inl s.1)

          no_later : (n : ℕ) (p : RacingPair) → slice_get of_group.pairs n ≡ Some p → IsNoLater (execution run) g.pair p
          no_later zero p at = inl (same_Some g.pair p (sym of_group.first ∙ at))
          no_later (suc n) p at = inr (of_group.list.sorted 0 (suc n) g.pair p (omega arith) of_group.first at)

      ordered : AreInOrder (execution run) more
      ordered m n h k l at_h at_k = by m n h k l (come m h at_h) (come n k at_k)
        where
          at_old : (n : ℕ) (h : Group) → slice_get groups n ≡ Some h → IsAtByte run j a h.pair
          at_old n h at = let s = old n h at in at_p h.pair s.0 s.1

          at_new : (h : Group) → h ≡ g → IsAtByte run j a h.pair
          at_new h e = subst (λ (k : Group). IsAtByte run j a k.pair) (sym e) (at_q g.pair first_racing.0 first_racing.1)

          less : (m n : ℕ) → m ≤ n → m ≢ n → m < n
          less m n l d = ⊎_elim (λ (h : m < n). h) (λ (h : n ≤ m). absurd (d (omega (arith, l, h)))) (cases_lt m n)

          by : (m n : ℕ) (h k : Group) → m < n → ComesFrom groups inserts.at g m h → ComesFrom groups inserts.at g n k → ComesBefore (execution run) h.pair k.pair
          by m n h k l (inl (e, s)) (inl (f, t)) = absurd (omega (arith, e, f, l))
          by m n h k l (inl (e, s)) (inr (inl (b, at))) = absurd (omega (arith, e, b, l))
          by m n h k l (inl (e, s)) (inr (inr (o, f, b, at))) =
              let above = inserts.above o k b at in
              let p = placed o k at in
              let q = of_group.placed in
              let d = differ o k at in
              let same = ap (λ (u : Group). write_place run u.pair) s in
              before_by_place h.pair k.pair (at_new h s) (at_old o k at) (less (write_place run h.pair) (write_place run k.pair) (omega (arith, above, p, q, same)) (λ u. d (sym u ∙ same)))
          by m n h k l (inr (inl (b, at))) (inl (f, t)) =
              let below = inserts.below m h b at in
              let p = placed m h at in
              let q = of_group.placed in
              let d = differ m h at in
              let same = ap (λ (u : Group). write_place run u.pair) t in
              before_by_place h.pair k.pair (at_old m h at) (at_new k t) (less (write_place run h.pair) (write_place run k.pair) (omega (arith, below, p, q, same)) (λ u. d (u ∙ same)))
          by m n h k l (inr (inr (o, e, b, at))) (inl (f, t)) = absurd (omega (arith, e, f, b, l))
          by m n h k l (inr (inl (b, at))) (inr (inl (c, at_k))) = is.order m n h k l at at_k
          by m n h k l (inr (inl (b, at))) (inr (inr (o, f, c, at_k))) = is.order m o h k (omega (arith, b, c)) at at_k
          by m n h k l (inr (inr (o, e, b, at))) (inr (inl (c, at_k))) = absurd (omega (arith, e, b, c, l))
          by m n h k l (inr (inr (o, e, b, at))) (inr (inr (u, f, c, at_k))) = is.order o u h k (omega (arith, e, f, l)) at at_k

      pub groups_insert : AreGroupsOf run sites (λ p. P p ⊎ Q p) more
      groups_insert = record {
        pairs = joined.0;
        list = lists_same run (λ p. P p ⊎ IsIn of_group.pairs p) (λ p. P p ⊎ Q p) joined.0
            (λ p racing h. ⊎_elim (λ (l : P p). inl l) (λ (r : IsIn of_group.pairs p). inr (its_pair r.0 p r.1).1) h)
            (λ p racing h. ⊎_elim (λ (l : P p). inl l) (λ (r : Q p). inr (of_group.list.complete p racing r)) h)
            joined.1.list;
        gathers = gathered;
        order = ordered;
      }

-- the groups and the new one state the places of their first pairs
pub placed_insert : (run : LoggedRun) (groups more : List Group) (g : Group) → ArePlaced run groups → write_place run g.pair ≡ g.place → Inserts g groups more → ArePlaced run more
placed_insert run groups more g placed new inserts n h at = by n h (get-insert groups inserts.at g n h inserts.within (ap (λ (gs : List Group). slice_get gs n) (sym inserts.is) ∙ at))
  where
    by : (n : ℕ) (h : Group) → ComesFrom groups inserts.at g n h → write_place run h.pair ≡ h.place
    by n h (inl (e, s)) = subst (λ (k : Group). write_place run k.pair ≡ k.place) (sym s) new
    by n h (inr (inl (l, at))) = placed n h at
    by n h (inr (inr (m, e, l, at))) = placed m h at
