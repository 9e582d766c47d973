-- What a list has at an index, after an item or a list was appended to it, or an item was replaced.
use Rattle.std.proofs.Common.{◌≡◌, ◌≢◌, ℕ, zero, suc, ◌+◌, ◌-◌, ◌<◌, ◌≤◌, List, [], ◌∷◌, ◌++◌, Bool, true, false, not, cond, length, slice_get, set, take, drop, get_or, Option, None, Some, refl, sym, ap, subst, map, Result, Ok, IfOk, ◌∙◌, arith, ◌⊎◌, inl, inr, ⊎_elim}
use Rattle.std.specs.Prelude.{count_by, sum_by}
use Rattle.std.specs.List.{AllZip, find, insert, position_or_len, range_with_len}
use Rattle.std.proofs.lemmas.Bool.{cases_lt, false≢true}
use Rattle.std.proofs.lemmas.Grind.{common_steps}
use Rattle.std.proofs.lemmas.List.{map_more}
use Rattle.std.proofs.lemmas.List.Sums.{sum_by-cons}
use Rattle.std.proofs.lemmas.List.FromFn.{get_or-range_with_len, length-range_with_len}
use Rattle.std.proofs.lemmas.Option.{get_or_from_slice_get, same_Some, slice_get_within}

module _ {X : Type 0} where
  pub get-left : (xs ys : List X) (n : ℕ) (x : X) → slice_get xs n ≡ Some x → slice_get (xs ++ ys) n ≡ Some x
  get-left [] ys n x h = absurd (cc)
  get-left (y ∷ xs) ys zero x h = h
  get-left (y ∷ xs) ys (suc n) x h = get-left xs ys n x h

  pub get-right : (xs ys : List X) (m n : ℕ) (x : X) → m ≡ n + length xs → slice_get ys n ≡ Some x → slice_get (xs ++ ys) m ≡ Some x
  get-right [] ys m n x e h = let d : m ≡ n = omega (arith, e) in ap (slice_get ys) d ∙ h
  get-right (y ∷ xs) ys zero n x e h = absurd (omega (arith, e))
  get-right (y ∷ xs) ys (suc m) n x e h = get-right xs ys m n x (omega (arith, e)) h

  pub get-append : (xs ys : List X) (n : ℕ) (x : X) → slice_get (xs ++ ys) n ≡ Some x → (slice_get xs n ≡ Some x) ⊎ ((k : ℕ) × (n ≡ k + length xs) × (slice_get ys k ≡ Some x))
  get-append [] ys n x h = inr (n, (let e : n ≡ n + 0 = omega arith in e), h)
  get-append (y ∷ xs) ys zero x h = inl h
  get-append (y ∷ xs) ys (suc n) x h = ⊎_elim
      (λ (l : slice_get xs n ≡ Some x). inl l)
      (λ (r : (k : ℕ) × (n ≡ k + length xs) × (slice_get ys k ≡ Some x)). inr (r.0, (let e = r.1 in omega (arith, e)), r.2))
      (get-append xs ys n x h)

  pub get_one : (y : X) (n : ℕ) (x : X) → slice_get (y ∷ []) n ≡ Some x → (n ≡ 0) × (x ≡ y)
  get_one y zero x h = (refl, sym (same_Some y x h))
  get_one y (suc n) x h = absurd (cc)

  pub get-set : (xs : List X) (i : ℕ) (y : X) (n : ℕ) (x : X) → slice_get (set xs i y) n ≡ Some x → ((n ≡ i) × (x ≡ y)) ⊎ ((n ≢ i) × (slice_get xs n ≡ Some x))
  get-set [] i y n x h = absurd (cc)
  get-set (z ∷ xs) zero y zero x h = inl (refl, sym (same_Some y x h))
  get-set (z ∷ xs) zero y (suc n) x h = inr ((λ e. omega (arith, e)), h)
  get-set (z ∷ xs) (suc i) y zero x h = inr ((λ e. omega (arith, e)), h)
  get-set (z ∷ xs) (suc i) y (suc n) x h = ⊎_elim
      (λ (l : (n ≡ i) × (x ≡ y)). inl (ap suc l.0, l.1))
      (λ (r : (n ≢ i) × (slice_get xs n ≡ Some x)). inr ((λ e. r.0 (omega (arith, e))), r.1))
      (get-set xs i y n x h)

  pub set-get : (xs : List X) (i : ℕ) (y x : X) → slice_get xs i ≡ Some x → slice_get (set xs i y) i ≡ Some y
  set-get [] i y x h = absurd (cc)
  set-get (z ∷ xs) zero y x h = refl
  set-get (z ∷ xs) (suc i) y x h = set-get xs i y x h

  pub set-get_other : (xs : List X) (i : ℕ) (y : X) (n : ℕ) (x : X) → n ≢ i → slice_get xs n ≡ Some x → slice_get (set xs i y) n ≡ Some x
  set-get_other [] i y n x d h = absurd (cc)
  set-get_other (z ∷ xs) zero y zero x d h = absurd (d refl)
  set-get_other (z ∷ xs) zero y (suc n) x d h = h
  set-get_other (z ∷ xs) (suc i) y zero x d h = h
  set-get_other (z ∷ xs) (suc i) y (suc n) x d h = set-get_other xs i y n x (λ e. d (ap suc e)) h

module _ {X : Type 0} (p : X → Bool) where
  -- no item passes the test
  abbrev pub NonePass : List X → Type 0
  NonePass xs = (n : ℕ) (x : X) → slice_get xs n ≡ Some x → p x ≡ false

  pub none-find : (xs : List X) → NonePass xs → find p xs ≡ None
  none-find [] none = refl
  none-find (x ∷ xs) none = ap (λ b. cond b (Some x) (find p xs)) (none 0 x refl) ∙ none-find xs (λ n y h. none (suc n) y h)

  by_test : (b : Bool) (P : Bool → Type 0) → P true → P false → P b
  by_test true P passes fails = passes
  by_test false P passes fails = fails

  -- what was found stays first
  pub found-position : (xs ys : List X) (a : X) → find p xs ≡ Some a → position_or_len p (xs ++ ys) ≡ position_or_len p xs
  found-position [] ys a h = absurd (cc)
  found-position (x ∷ xs) ys a h = by_test (p x)
      (λ b. cond b (Some x) (find p xs) ≡ Some a → cond (not b) (1 + position_or_len p (xs ++ ys)) 0 ≡ cond (not b) (1 + position_or_len p xs) 0)
      (λ e. refl) (λ e. ap (λ n. 1 + n) (found-position xs ys a e)) h

  pub found-below : (xs : List X) (a : X) → find p xs ≡ Some a → position_or_len p xs < length xs
  found-below [] a h = absurd (cc)
  found-below (x ∷ xs) a h = by_test (p x)
      (λ b. cond b (Some x) (find p xs) ≡ Some a → cond (not b) (1 + position_or_len p xs) 0 < length (x ∷ xs))
      (λ e. omega arith) (λ e. let l = found-below xs a e in omega (arith, l)) h

pub AllZip-oks : {A B : Type 0} (E : Type 0) (R : A → B → Type 0) (xs : List A) (ys : List B) → AllZip (λ x (r : Result B E). IfOk r (R x)) xs (map Ok ys) → AllZip R xs ys
AllZip-oks E R [] [] h = tt
AllZip-oks E R [] (y ∷ ys) h = absurd h
AllZip-oks E R (x ∷ xs) [] h = absurd h
AllZip-oks E R (x ∷ xs) (y ∷ ys) h = (h.0, AllZip-oks E R xs ys h.1)

pub AllZip-length : {A B : Type 0} (R : A → B → Type 0) (xs : List A) (ys : List B) → AllZip R xs ys → length xs ≡ length ys
AllZip-length R [] [] h = λ i. 0
AllZip-length R [] (y ∷ ys) h = absurd h
AllZip-length R (x ∷ xs) [] h = absurd h
AllZip-length R (x ∷ xs) (y ∷ ys) h = let e = AllZip-length R xs ys h.1 in omega arith

pub AllZip-get : {A B : Type 0} (R : A → B → Type 0) (xs : List A) (ys : List B) (k : ℕ) (y : B) → AllZip R xs ys → slice_get ys k ≡ Some y → (x : A) × (slice_get xs k ≡ Some x) × R x y
AllZip-get R [] [] k y h at = absurd (cc)
AllZip-get R [] (z ∷ ys) k y h at = absurd h
AllZip-get R (x ∷ xs) [] k y h at = absurd h
AllZip-get R (x ∷ xs) (z ∷ ys) zero y h at = (x, refl, subst (R x) (same_Some z y at) h.0)
AllZip-get R (x ∷ xs) (z ∷ ys) (suc k) y h at = AllZip-get R xs ys k y h.1 at

pub range-get : (n k i : ℕ) → slice_get (range_with_len 0 n) k ≡ Some i → i ≡ k
range-get n k i at =
    let within = slice_get_within (range_with_len 0 n) k i at in
    let long = length-range_with_len 0 n in
    let e = get_or-range_with_len 0 n k 0 (omega (arith, within, long)) in
    let f = get_or_from_slice_get (range_with_len 0 n) k i 0 at in
    omega (arith, e, f)

module _ {X : Type 0} where
  -- an item of a part of a list
  pub get-part : (xs : List X) (low count n : ℕ) (x : X) → slice_get (take count (drop low xs)) n ≡ Some x → (n < count) × (slice_get xs (low + n) ≡ Some x)
  get-part [] low count n x h = absurd (nothing low count n h)
    where
      nothing : (low count n : ℕ) → slice_get (take count (drop low [])) n ≡ Some x → ⊥
      nothing zero zero n h = cc
      nothing zero (suc count) n h = cc
      nothing (suc low) zero n h = cc
      nothing (suc low) (suc count) n h = cc
  get-part (y ∷ xs) zero zero n x h = absurd (cc)
  get-part (y ∷ xs) zero (suc count) zero x h = (omega arith, h)
  get-part (y ∷ xs) zero (suc count) (suc n) x h =
      let r = get-part xs zero count n x h in
      let e : 0 + suc n ≡ suc (0 + n) = omega arith in
      ((let l = r.0 in omega (arith, l)), ap (slice_get (y ∷ xs)) e ∙ r.1)
  get-part (y ∷ xs) (suc low) count n x h =
      let r = get-part xs low count n x h in
      let e : suc low + n ≡ suc (low + n) = omega arith in
      (r.0, ap (slice_get (y ∷ xs)) e ∙ r.1)

  pub part-get : (xs : List X) (low count n : ℕ) (x : X) → n < count → slice_get xs (low + n) ≡ Some x → slice_get (take count (drop low xs)) n ≡ Some x
  part-get [] low count n x l h = absurd (cc)
  part-get (y ∷ xs) zero zero n x l h = absurd (omega (arith, l))
  part-get (y ∷ xs) zero (suc count) zero x l h = h
  part-get (y ∷ xs) zero (suc count) (suc n) x l h =
      let e : suc (0 + n) ≡ 0 + suc n = omega arith in
      part-get xs zero count n x (omega (arith, l)) (ap (slice_get (y ∷ xs)) e ∙ h)
  part-get (y ∷ xs) (suc low) count n x l h =
      let e : suc (low + n) ≡ suc low + n = omega arith in
      part-get xs low count n x l (ap (slice_get (y ∷ xs)) e ∙ h)

  pub part-length : (xs : List X) (low high : ℕ) → low ≤ high → high ≤ length xs → length (take (high - low) (drop low xs)) ≡ high - low
  part-length xs low high l h = grind (arith, common_steps)

pub none_some : {X : Type 0} (o : Option X) (x : X) → o ≡ None → o ≡ Some x → ⊥
none_some None x h k = cc
none_some (Some y) x h k = cc

pub get_inside : {X : Type 0} (xs : List X) (n : ℕ) → n < length xs → slice_get xs n ≡ None → ⊥
get_inside [] n l h = omega arith
get_inside (x ∷ xs) zero l h = cc
get_inside (x ∷ xs) (suc n) l h = get_inside xs n (let m : suc n < suc (length xs) = l in omega arith) h

pub not_true : (b : Bool) → not b ≡ true → b ≡ false
not_true true h = absurd (false≢true h)
not_true false h = refl

pub not_false : (b : Bool) → not b ≡ false → b ≡ true
not_false true h = refl
not_false false h = absurd (false≢true (sym h))

pub is_false : (b : Bool) → (b ≡ true → ⊥) → b ≡ false
is_false true h = absurd (h refl)
is_false false h = refl

-- the sum over the first items and the next one is at most that over all
pub sum-take : {X : Type 0} (f : X → ℕ) (xs : List X) (i : ℕ) (d : X) → i < length xs → sum_by f (take i xs) + f (get_or xs i d) ≤ sum_by f xs
sum-take f [] i d l = absurd (omega (arith, l))
sum-take f (x ∷ xs) zero d l = let a = sum_by-cons f x xs in omega (arith, a)
sum-take f (x ∷ xs) (suc i) d l =
    let a = sum_by-cons f x xs in
    let b = sum_by-cons f x (take i xs) in
    let r = sum-take f xs i d (let m : suc i < suc (length xs) = l in omega arith) in
    omega (arith, a, b, r)

-- where an item of a list with one more comes from
abbrev pub ComesFrom : {X : Type 0} → List X → ℕ → X → ℕ → X → Type 0
ComesFrom xs i y n x = ((n ≡ i) × (x ≡ y)) ⊎ (((n < i) × (slice_get xs n ≡ Some x)) ⊎ ((m : ℕ) × (n ≡ m + 1) × (i ≤ m) × (slice_get xs m ≡ Some x)))

module _ {X : Type 0} where
  later : (xs : List X) (i : ℕ) (y z : X) (n : ℕ) (x : X) → ComesFrom xs i y n x → ComesFrom (z ∷ xs) (suc i) y (suc n) x
  later xs i y z n x (inl (e, s)) = inl (ap suc e, s)
  later xs i y z n x (inr (inl (l, at))) = inr (inl ((omega (arith, l)), at))
  later xs i y z n x (inr (inr (m, e, l, at))) = inr (inr (suc m, omega (arith, e), omega (arith, l), at))

  pub get-insert : (xs : List X) (i : ℕ) (y : X) (n : ℕ) (x : X) → i ≤ length xs → slice_get (insert xs i y) n ≡ Some x → ComesFrom xs i y n x
  get-insert [] zero y zero x l h = inl (refl, sym (same_Some y x h))
  get-insert [] zero y (suc n) x l h = absurd (cc)
  get-insert [] (suc i) y n x l h = absurd (omega (arith, l))
  get-insert (z ∷ xs) zero y zero x l h = inl (refl, sym (same_Some y x h))
  get-insert (z ∷ xs) zero y (suc n) x l h = inr (inr (n, omega arith, omega arith, h))
  get-insert (z ∷ xs) (suc i) y zero x l h = inr (inl ((omega arith), h))
  get-insert (z ∷ xs) (suc i) y (suc n) x l h = later xs i y z n x (get-insert xs i y n x (let m : suc i ≤ suc (length xs) = l in omega arith) h)

  pub insert-get : (xs : List X) (i : ℕ) (y : X) → i ≤ length xs → (n : ℕ) × (slice_get (insert xs i y) n ≡ Some y)
  insert-get [] zero y l = (0, refl)
  insert-get [] (suc i) y l = absurd (omega (arith, l))
  insert-get (z ∷ xs) zero y l = (0, refl)
  insert-get (z ∷ xs) (suc i) y l = let r = insert-get xs i y (let m : suc i ≤ suc (length xs) = l in omega arith) in (suc r.0, r.1)

  pub insert-get_other : (xs : List X) (i : ℕ) (y : X) (n : ℕ) (x : X) → slice_get xs n ≡ Some x → (m : ℕ) × (slice_get (insert xs i y) m ≡ Some x)
  insert-get_other [] i y n x h = absurd (cc)
  insert-get_other (z ∷ xs) zero y n x h = (suc n, h)
  insert-get_other (z ∷ xs) (suc i) y zero x h = (0, h)
  insert-get_other (z ∷ xs) (suc i) y (suc n) x h = let r = insert-get_other xs i y n x h in (suc r.0, r.1)

  -- the index that parts a rising list at a number that it lacks
  pub record IsCut (f : X → ℕ) (k : ℕ) (xs : List X) (i : ℕ) : Type 0 where
    pub within : i ≤ length xs
    pub below : (n : ℕ) (x : X) → n < i → slice_get xs n ≡ Some x → f x < k
    pub above : (n : ℕ) (x : X) → i ≤ n → slice_get xs n ≡ Some x → k < f x

  pub cut-rising : (f : X → ℕ) (k : ℕ) (xs : List X) → ((m n : ℕ) (x z : X) → m < n → slice_get xs m ≡ Some x → slice_get xs n ≡ Some z → f x < f z)
      → ((n : ℕ) (x : X) → slice_get xs n ≡ Some x → f x ≢ k) → (i : ℕ) × IsCut f k xs i
  cut-rising f k [] rises lacks = (0, record { within = omega arith; below = λ n x l h. absurd (cc (h)); above = λ n x l h. absurd (cc (h)) })
  cut-rising f k (y ∷ xs) rises lacks = ⊎_elim
      (λ (h : k < f y). (
        0,
        record {
          within = omega arith;
          below = λ n x l at. absurd (omega (arith, l));
          above = λ n x l at. from h n x at;
        },
      ))
      (λ (h : f y ≤ k).
      let r = cut-rising f k xs (λ m n x z l at_x at_z. rises (suc m) (suc n) x z (omega arith) at_x at_z) (λ n x at. lacks (suc n) x at) in
      let d = lacks 0 y refl in
      let w = r.1.within in (
        suc r.0,
        record {
          within = omega (arith, w);
          below = λ n x l at. under h d r n x l at;
          above = λ n x l at. over r n x l at;
        },
      ))
      (cases_lt k (f y))
    where
      from : k < f y → (n : ℕ) (x : X) → slice_get (y ∷ xs) n ≡ Some x → k < f x
      from h zero x at = let e = ap f (same_Some y x at) in omega (arith, h, e)
      from h (suc n) x at = let l = rises 0 (suc n) y x (omega arith) refl at in omega (arith, h, l)

      under : f y ≤ k → f y ≢ k → (r : (i : ℕ) × IsCut f k xs i) → (n : ℕ) (x : X) → n < suc r.0 → slice_get (y ∷ xs) n ≡ Some x → f x < k
      under h d r zero x l at = let e = ap f (same_Some y x at) in ⊎_elim (λ (less : f y < k). omega (arith, e, less)) (λ (more : k ≤ f y). absurd (d (omega (arith, h, more)))) (cases_lt (f y) k)
      under h d r (suc n) x l at = r.1.below n x (omega (arith, l)) at

      over : (r : (i : ℕ) × IsCut f k xs i) → (n : ℕ) (x : X) → suc r.0 ≤ n → slice_get (y ∷ xs) n ≡ Some x → k < f x
      over r zero x l at = absurd (omega (arith, l))
      over r (suc n) x l at = r.1.above n x (omega (arith, l)) at

module _ {X : Type 0} (p : X → Bool) where
  -- the first item that passes the test
  pub record IsFirst (xs : List X) (i : ℕ) (x : X) : Type 0 where
    pub at : slice_get xs i ≡ Some x
    pub passes : p x ≡ true
    pub before : (n : ℕ) (y : X) → n < i → slice_get xs n ≡ Some y → p y ≡ false

  pub first-find : (xs : List X) (i : ℕ) (x : X) → IsFirst xs i x → find p xs ≡ Some x
  first-find [] i x first = let h = first.at in absurd (cc)
  first-find (y ∷ xs) zero x first =
      let e : y ≡ x = same_Some y x first.at in
      ap (λ b. cond b (Some y) (find p xs)) (ap p e ∙ first.passes) ∙ ap Some e
  first-find (y ∷ xs) (suc i) x first = ap (λ b. cond b (Some y) (find p xs)) (first.before 0 y (omega arith) refl) ∙ first-find xs i x (record {
    at = first.at;
    passes = first.passes;
    before = λ n z l at. first.before (suc n) z (omega (arith, l)) at;
  })

  pub first-position : (xs : List X) (i : ℕ) (x : X) → IsFirst xs i x → position_or_len p xs ≡ i
  first-position [] i x first = let h = first.at in absurd (cc)
  first-position (y ∷ xs) zero x first =
      let e : y ≡ x = same_Some y x first.at in
      ap (λ b. cond (not b) (1 + position_or_len p xs) 0) (ap p e ∙ first.passes)
  first-position (y ∷ xs) (suc i) x first =
      let r = first-position xs i x (record {
        at = first.at;
        passes = first.passes;
        before = λ n z l at. first.before (suc n) z (omega (arith, l)) at;
      }) in
      ap (λ b. cond (not b) (1 + position_or_len p xs) 0) (first.before 0 y (omega arith) refl) ∙ (let e : 1 + position_or_len p xs ≡ suc i = omega (arith, r) in e)

  pub find-first : (xs : List X) (x : X) → find p xs ≡ Some x → IsFirst xs (position_or_len p xs) x
  find-first [] x h = absurd (cc)
  find-first (y ∷ xs) x h = by_test p (p y)
      (λ b. p y ≡ b → cond b (Some y) (find p xs) ≡ Some x → IsFirst (y ∷ xs) (cond (not b) (1 + position_or_len p xs) 0) x)
      (λ is e. record {
        at = e;
        passes = ap p (sym (same_Some y x e)) ∙ is;
        before = λ n z l at. absurd (omega (arith, l));
      })
      (λ is e.
      let r = find-first xs x e in
      let k : suc (position_or_len p xs) ≡ 1 + position_or_len p xs = omega arith in
      subst (λ i. IsFirst (y ∷ xs) i x) k (record {
        at = r.at;
        passes = r.passes;
        before = λ n z l at. earlier is r n z l at;
      }))
      refl h
    where
      earlier : p y ≡ false → IsFirst xs (position_or_len p xs) x → (n : ℕ) (z : X) → n < suc (position_or_len p xs) → slice_get (y ∷ xs) n ≡ Some z → p z ≡ false
      earlier is r zero z l at = ap p (sym (same_Some y z at)) ∙ is
      earlier is r (suc n) z l at = r.before n z (omega (arith, l)) at

  -- a test that all items pass, or none
  pub count-all : (xs : List X) (b : Bool) → ((n : ℕ) (x : X) → slice_get xs n ≡ Some x → p x ≡ b) → count_by p xs ≡ cond b (length xs) 0
  count-all [] true all = refl
  count-all [] false all = refl
  count-all (x ∷ xs) true all =
      let r = count-all xs true (λ n y at. all (suc n) y at) in
      let a = sum_by-cons (λ x. cond (p x) 1 0) x xs in
      let one : ℕ = 1 in
      let e : cond (p x) one 0 ≡ one = ap (λ b. cond b one 0) (all 0 x refl) in
      omega (arith, r, a, e)
  count-all (x ∷ xs) false all =
      let r = count-all xs false (λ n y at. all (suc n) y at) in
      let a = sum_by-cons (λ x. cond (p x) 1 0) x xs in
      let one : ℕ = 1 in
      let none : ℕ = 0 in
      let e : cond (p x) one none ≡ none = ap (λ b. cond b one none) (all 0 x refl) in
      omega (arith, r, a, e)

-- what is made of the items so far, and of one more
pub map_pushed : {X Y : Type 0} (f : X → Y) (xs : List X) (i : ℕ) (x : X) (was now : List Y) → i < length xs → was ≡ map f (take i xs) → now ≡ was ++ f (get_or xs i x) ∷ [] → now ≡ map f (take (i + 1) xs)
map_pushed f xs i x was now inside so_far pushed = rw (map_more f xs i x inside, ← so_far) pushed
