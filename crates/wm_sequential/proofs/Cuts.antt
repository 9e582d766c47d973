-- Lists that are cut, and where a thread is cut.
use Rattle.std.proofs.Common.{◌≡◌, ℕ, zero, suc, ◌<◌, ◌≤◌, List, [], ◌∷◌, ◌++◌, length, take, slice_get, None, Some, refl, subst, arith, ⊎_elim}
use Rattle.std.proofs.lemmas.Bool.{cases_lt}
use Rattle.wm_event.specs.declared.event.Event.{Event}

pub taken-at : (es : List Event) (n i : ℕ) → i < n → slice_get (take n es) i ≡ slice_get es i
taken-at es zero i l = absurd (omega (arith, l))
taken-at [] (suc n) i l = refl
taken-at (e ∷ es) (suc n) zero l = refl
taken-at (e ∷ es) (suc n) (suc i) l = taken-at es n i (omega (arith, l))

pub taken-past : (es : List Event) (n i : ℕ) → n ≤ i → slice_get (take n es) i ≡ None
taken-past es zero i l = refl
taken-past [] (suc n) i l = refl
taken-past (e ∷ es) (suc n) zero l = absurd (omega (arith, l))
taken-past (e ∷ es) (suc n) (suc i) l = taken-past es n i (omega (arith, l))

-- a list that is cut at n, with one more element
pub cut-at : (es : List Event) (n i : ℕ) (y : Event) → n < length es → i < n → slice_get (take n es ++ y ∷ []) i ≡ slice_get es i
cut-at [] n i y l m = absurd (omega (arith, l))
cut-at (e ∷ es) zero i y l m = absurd (omega (arith, m))
cut-at (e ∷ es) (suc n) zero y l m = refl
cut-at (e ∷ es) (suc n) (suc i) y l m = cut-at es n i y (omega (arith, l)) (omega (arith, m))

pub cut-end : (es : List Event) (n : ℕ) (y : Event) → n < length es → slice_get (take n es ++ y ∷ []) n ≡ Some y
cut-end [] n y l = absurd (omega (arith, l))
cut-end (e ∷ es) zero y l = refl
cut-end (e ∷ es) (suc n) y l = cut-end es n y (omega (arith, l))

pub cut-past : (es : List Event) (n i : ℕ) (y : Event) → n < length es → n < i → slice_get (take n es ++ y ∷ []) i ≡ None
cut-past [] n i y l m = absurd (omega (arith, l))
cut-past (e ∷ es) zero zero y l m = absurd (omega (arith, m))
cut-past (e ∷ es) zero (suc i) y l m = refl
cut-past (e ∷ es) (suc n) zero y l m = absurd (omega (arith, m))
cut-past (e ∷ es) (suc n) (suc i) y l m = cut-past es n i y (omega (arith, l)) (omega (arith, m))

-- a property of numbers holds up to n, and not from there on
pub record HoldsBelow (P : ℕ → Type 0) (len : ℕ) : Type 0 where
  pub n : ℕ
  pub below : (i : ℕ) → i < n → P i
  pub above : (i : ℕ) → n ≤ i → i < len → P i → ⊥

-- one that holds of each number below one of which it holds
pub holds-below : (P : ℕ → Type 0) (len : ℕ) → ((i j : ℕ) → i < j → j < len → P j → P i) → (HoldsBelow P len → ⊥) → ⊥
holds-below P zero down not = not (record { n = 0; below = λ i l. absurd (omega (arith, l)); above = λ i l m q. omega (arith, m) })
holds-below P (suc len) down not = holds-below P len (λ i j l m. down i j l (omega (arith, m))) (λ b. ⊎_elim
    (λ (l : b.n < len).
    let here : (P len → ⊥) = λ q. b.above b.n (omega arith) l (down b.n len l (omega arith) q) in
    not (record {
      n = b.n;
      below = b.below;
      above = λ i m k q. ⊎_elim (λ (less : i < len). b.above i m less q) (λ (more : len ≤ i). let same : i ≡ len = omega (arith, more, k) in here (subst P same q)) (cases_lt i len);
    }))
    (λ (l : len ≤ b.n).
    let now : (P len → ⊥) = λ q. not (record {
      n = suc len;
      below = λ i m. ⊎_elim (λ (less : i < len). b.below i (omega (arith, less, l))) (λ (more : len ≤ i). let same : len ≡ i = omega (arith, more, m) in subst P same q) (cases_lt i len);
      above = λ i m k q. omega (arith, m, k);
    }) in
    not (record {
      n = len;
      below = λ i m. b.below i (omega (arith, m, l));
      above = λ i m k q. let same : i ≡ len = omega (arith, m, k) in now (subst P same q);
    }))
    (cases_lt b.n len))
