-- Lists of racing pairs, appended to one another.
use Rattle.std.proofs.Common.{◌≡◌, ℕ, ◌+◌, ◌<◌, List, [], ◌∷◌, ◌++◌, length, slice_get, Some, refl, sym, ap, subst, arith, ◌⊎◌, inl, inr, ⊎_elim}
use Rattle.std.proofs.lemmas.Option.{slice_get_within}
use Rattle.wm_event.specs.LoggedRun.{LoggedRun, execution}
use Rattle.wm_races.specs.Listing.{Lists}
use Rattle.wm_races.specs.Races.{ComesBefore, IsRacingPair}
use Rattle.wm_races.specs.declared.pair.RacingPair.{RacingPair}
use Rattle.wm_races.proofs.ListLemmas.{get-left, get-right, get-append, get_one}

module _ (run : LoggedRun) where
  -- a property of racing pairs implies another
  abbrev pub Implies : (RacingPair → Type 0) → (RacingPair → Type 0) → Type 0
  Implies P Q = (p : RacingPair) → IsRacingPair (execution run) p → P p → Q p

  pub lists_none : (P : RacingPair → Type 0) → ((p : RacingPair) → IsRacingPair (execution run) p → P p → ⊥) → Lists run P []
  lists_none P none = record {
    sound = λ n p h. absurd (nothing n p h);
    complete = λ p racing h. absurd (none p racing h);
    sorted = λ m n p q l h. absurd (nothing m p h);
  }
    where
      nothing : (n : ℕ) (p : RacingPair) → slice_get [] n ≡ Some p → ⊥
      nothing n p h = cc

  pub lists_one : (p : RacingPair) → IsRacingPair (execution run) p → Lists run (λ q. q ≡ p) (p ∷ [])
  lists_one p racing = record {
    sound = λ n q h. let e = (get_one p n q h).1 in (subst (IsRacingPair (execution run)) (sym e) racing, e);
    complete = λ q r e. (0, ap Some (sym e));
    sorted = λ m n q r l a b. let e = (get_one p m q a).0 in let f = (get_one p n r b).0 in absurd (omega (arith, e, f));
  }

  pub lists_same : (P Q : RacingPair → Type 0) (xs : List RacingPair) → Implies P Q → Implies Q P → Lists run P xs → Lists run Q xs
  lists_same P Q xs to from lists = record {
    sound = λ n p h. let s = lists.sound n p h in (s.0, to p s.0 s.1);
    complete = λ p racing q. lists.complete p racing (from p racing q);
    sorted = lists.sorted;
  }

  pub lists_append : (P Q R : RacingPair → Type 0) (xs ys : List RacingPair)
      → ((p q : RacingPair) → IsRacingPair (execution run) p → IsRacingPair (execution run) q → P p → Q q → ComesBefore (execution run) p q)
      → Implies P R → Implies Q R → Implies R (λ p. P p ⊎ Q p) → Lists run P xs → Lists run Q ys → Lists run R (xs ++ ys)
  lists_append P Q R xs ys before left right either first second = record {
    sound = λ n p h. ⊎_elim
        (λ (l : slice_get xs n ≡ Some p). let s = first.sound n p l in (s.0, left p s.0 s.1))
        (λ (r : (k : ℕ) × (n ≡ k + length xs) × (slice_get ys k ≡ Some p)). let s = second.sound r.0 p r.2 in (s.0, right p s.0 s.1))
        (get-append xs ys n p h);
    complete = λ p racing r. ⊎_elim
        (λ (l : P p). let k = first.complete p racing l in (k.0, get-left xs ys k.0 p k.1))
        (λ (l : Q p). let k = second.complete p racing l in (k.0 + length xs, get-right xs ys (k.0 + length xs) k.0 p refl k.1))
        (either p racing r);
    sorted = λ m n p q l a b. ordered m n p q l (get-append xs ys m p a) (get-append xs ys n q b);
  }
    where
      ordered : (m n : ℕ) (p q : RacingPair) → m < n
          → (slice_get xs m ≡ Some p) ⊎ ((k : ℕ) × (m ≡ k + length xs) × (slice_get ys k ≡ Some p))
          → (slice_get xs n ≡ Some q) ⊎ ((k : ℕ) × (n ≡ k + length xs) × (slice_get ys k ≡ Some q)) → ComesBefore (execution run) p q
      ordered m n p q l (inl a) (inl b) = first.sorted m n p q l a b
      ordered m n p q l (inl a) (inr b) = let s = first.sound m p a in let t = second.sound b.0 q b.2 in before p q s.0 t.0 s.1 t.1
      ordered m n p q l (inr a) (inl b) = let w = slice_get_within xs n q b in let e = a.1 in absurd (omega (arith, w, e))
      ordered m n p q l (inr a) (inr b) = let e = a.1 in let f = b.1 in second.sorted a.0 b.0 p q (omega (arith, e, f)) a.2 b.2
