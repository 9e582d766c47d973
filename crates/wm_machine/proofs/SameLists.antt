-- Lists with the same elements.
use Rattle.std.proofs.Common.{◌≡◌, ℕ, zero, suc, ◌+◌, ◌<◌, ◌≤◌, inl, inr, List, [], ◌∷◌, get_or, length, map, Some, None, refl, sym, ap, ◌∙◌, arith}
use Rattle.std.specs.Prelude.{◌⊎◌, option_map, slice_get}
use Rattle.std.proofs.Math.Nat.{eq-or-lt_of_le}
use Rattle.std.proofs.lemmas.Option.{none-some, same_Some, slice_get-map, slice_get_read}

-- lists that have nothing after n, and the same before n
pub same_below : {X : Type 0} (xs ys : List X) (n : ℕ) → length xs ≡ length ys → length xs ≤ n → ((i : ℕ) → i < n → slice_get xs i ≡ slice_get ys i) → xs ≡ ys
same_below [] [] n count all each = refl
same_below [] (y ∷ ys) n count all each = absurd (omega (arith, count))
same_below (x ∷ xs) [] n count all each = absurd (omega (arith, count))
same_below (x ∷ xs) (y ∷ ys) zero count all each = absurd (omega (arith, all))
same_below {X} (x ∷ xs) (y ∷ ys) (suc n) count all each =
    ap (λ (z : X). z ∷ xs) (same_Some x y (each 0 (omega arith)))
    ∙ ap (λ zs. y ∷ zs) (same_below xs ys n (omega (arith, count)) (omega (arith, all)) (λ i lt. each (suc i) (omega (arith, lt))))

-- lists that both end at n, with the same before n
pub same_until : {X : Type 0} (xs ys : List X) (n : ℕ) → slice_get xs n ≡ None → slice_get ys n ≡ None → ((i : ℕ) → i < n → slice_get xs i ≡ slice_get ys i) → xs ≡ ys
same_until [] [] n none none' each = refl
same_until [] (y ∷ ys) zero none none' each = absurd (none-some y (sym none'))
same_until [] (y ∷ ys) (suc n) none none' each = absurd (none-some y (each 0 (omega arith)))
same_until (x ∷ xs) ys zero none none' each = absurd (none-some x (sym none))
same_until (x ∷ xs) [] (suc n) none none' each = absurd (none-some x (sym (each 0 (omega arith))))
same_until {X} (x ∷ xs) (y ∷ ys) (suc n) none none' each =
    ap (λ (z : X). z ∷ xs) (same_Some x y (each 0 (omega arith)))
    ∙ ap (λ zs. y ∷ zs) (same_until xs ys n none none' (λ i lt. each (suc i) (omega (arith, lt))))

-- one more of the values that f gives is the same
pub one_more_same : {X Y : Type 0} (f : X → Y) (xs ys : List X) (n : ℕ) (x y : X) → n < length xs → length xs ≡ length ys → x ≡ get_or xs n x → y ≡ get_or ys n y → f x ≡ f y
    → ((i : ℕ) → i < n → slice_get (map f xs) i ≡ slice_get (map f ys) i) → (i : ℕ) → i < n + 1 → slice_get (map f xs) i ≡ slice_get (map f ys) i
one_more_same {X} {Y} f xs ys n x y within count at_x at_y same below i lt = by (eq-or-lt_of_le (let le : i ≤ n = omega (arith, lt) in le))
  where
    here : (zs : List X) (z : X) → n < length zs → z ≡ get_or zs n z → slice_get (map f zs) n ≡ Some (f z)
    here zs z room at = slice_get-map f zs n ∙ ap (option_map f) (slice_get_read zs (length zs) n z refl room at)

    by : (i ≡ n) ⊎ (i < n) → slice_get (map f xs) i ≡ slice_get (map f ys) i
    by (inr before) = below i before
    by (inl at) =
        ap (slice_get (map f xs)) at ∙ here xs x within at_x ∙ ap (λ (z : Y). Some z) same ∙ sym (here ys y (omega (arith, within, count)) at_y) ∙ sym (ap (slice_get (map f ys)) at)

pub length_mapped : {X Y : Type 0} (f : X → Y) (xs : List X) → length (map f xs) ≡ length xs
length_mapped f [] = refl
length_mapped f (x ∷ xs) = ap suc (length_mapped f xs)
