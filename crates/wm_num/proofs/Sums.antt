-- Sums of a function over the numbers below a bound.
use Rattle.std.proofs.Common.{◌≡◌, ℕ, zero, suc, ◌+◌, ◌<◌, ◌≤◌, refl, ap, ap₂, ◌∙◌, Bool, true, false, arith, add_assoc, min}
use Rattle.std.specs.Prelude.{if◌then◌else◌}
use Rattle.std.proofs.lemmas.Bool.{cases_lt}
use Rattle.std.proofs.Common.{◌⊎◌, inl, inr}
use Rattle.wm_num.specs.Number.{sum_below, count_below}

-- equal terms have equal sums
pub sum_below-same : (w : ℕ) (f g : ℕ → ℕ) → ((i : ℕ) → f i ≡ g i) → sum_below w f ≡ sum_below w g
unfolding sum_below
sum_below-same zero f g same = refl
sum_below-same (suc w) f g same = ap₂ (λ (x y : ℕ). x + y) (sum_below-same w f g same) (same w)

-- zeros add up to 0
pub sum_below-zeros : (w : ℕ) → sum_below w (λ i. 0) ≡ 0
unfolding sum_below
sum_below-zeros zero = refl
sum_below-zeros (suc w) = ap (λ (x : ℕ). x + 0) (sum_below-zeros w)

-- the first term, and the sum of the others
pub sum_below-front : (w : ℕ) (f : ℕ → ℕ) → sum_below (suc w) f ≡ f 0 + sum_below w (λ i. f (suc i))
unfolding sum_below
sum_below-front zero f = omega arith
sum_below-front (suc w) f =
    ap (λ (x : ℕ). x + f (suc w)) (sum_below-front w f) ∙ add_assoc (f 0) (sum_below w (λ i. f (suc i))) (f (suc w))

-- a test that fails below m and passes from there on
pub count_below-from : (w m : ℕ) (p : ℕ → Bool) → ((i : ℕ) → i < m → p i ≡ false) → ((i : ℕ) → m ≤ i → p i ≡ true)
    → count_below w p + min m w ≡ w
unfolding sum_below
count_below-from zero m p fails passes = omega arith
count_below-from (suc w) m p fails passes = go (cases_lt w m) (count_below-from w m p fails passes)
  where
    go : (w < m) ⊎ (m ≤ w) → count_below w p + min m w ≡ w
        → sum_below w (λ i. if p i then 1 else 0) + (if p w then 1 else 0) + min m (suc w) ≡ suc w
    go (inl below) ih = rw (fails w below) (omega arith)
    go (inr above) ih = rw (passes w above) (omega arith)
