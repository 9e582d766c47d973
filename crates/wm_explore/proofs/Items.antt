-- The items that a loop over a list has passed.
use Rattle.std.proofs.Common.{◌≡◌, ℕ, ◌+◌, ◌<◌, ◌≤◌, inl, inr, List, length, get_or, Some, refl, sym, ap, subst, ◌∙◌, arith}
use Rattle.std.specs.Prelude.{◌⊎◌, slice_get}
use Rattle.std.proofs.Math.Nat.{eq-or-lt_of_le}
use Rattle.std.proofs.lemmas.Option.{same_Some, slice_get_read, slice_get_within}

-- the item that a loop is at
pub item_at : {X : Type 0} (xs ys : List X) (n : ℕ) (x : X) → ys ≡ xs → n < length ys → x ≡ get_or ys n x → slice_get xs n ≡ Some x
item_at xs ys n x same lt is = subst (λ zs. slice_get zs n ≡ Some x) same (slice_get_read ys (length ys) n x refl lt is)

-- what holds of the items before n
abbrev pub Below : {X : Type 0} → (ℕ → X → Type 0) → List X → ℕ → Type 0
Below {X} P xs n = (i : ℕ) (x : X) → i < n → slice_get xs i ≡ Some x → P i x

-- the same where it holds of whatever item n is
pub one_more_any : {X : Type 0} (P : ℕ → X → Type 0) (xs : List X) (n : ℕ) → ((x : X) → slice_get xs n ≡ Some x → P n x) → Below P xs n → Below P xs (n + 1)
one_more_any P xs n now below i y lt at = by (eq-or-lt_of_le (let le : i ≤ n = omega (arith, lt) in le))
  where
    by : (i ≡ n) ⊎ (i < n) → P i y
    by (inr before) = below i y before at
    by (inl same) = subst (λ j. P j y) (sym same) (now y (ap (slice_get xs) (sym same) ∙ at))

-- what holds of item n and of those before holds of those before n + 1
pub one_more : {X : Type 0} (P : ℕ → X → Type 0) (xs : List X) (n : ℕ) (x : X) → slice_get xs n ≡ Some x → P n x → Below P xs n → Below P xs (n + 1)
one_more P xs n x is now below i y lt at = by (eq-or-lt_of_le (let le : i ≤ n = omega (arith, lt) in le))
  where
    by : (i ≡ n) ⊎ (i < n) → P i y
    by (inr before) = below i y before at
    by (inl same) =
        let one : x ≡ y = same_Some x y (sym is ∙ ap (slice_get xs) (sym same) ∙ at) in
        subst (λ z. P i z) one (subst (λ j. P j x) (sym same) now)

-- after the last item it holds of all
pub all_below : {X : Type 0} (P : ℕ → X → Type 0) (xs : List X) (n : ℕ) → length xs ≤ n → Below P xs n → (i : ℕ) (x : X) → slice_get xs i ≡ Some x → P i x
all_below P xs n all below i x at = let within = slice_get_within xs i x at in below i x (omega (arith, all, within)) at
