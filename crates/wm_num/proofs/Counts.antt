-- The machine's counts of zeros and ones are the counts of places.
use Rattle.std.proofs.Common.{◌≡◌, ℕ, zero, suc, ◌+◌, ◌-◌, ◌*◌, ◌/◌, ◌%◌, ◌^◌, ◌<◌, ◌≤◌, refl, ap, ◌∙◌, sym, arith, lit<, true, false, nat_lt, ◌==◌, Bool, min}
use Rattle.std.specs.Prelude.{if◌then◌else◌}
use Rattle.std.specs.Int.Count.{ones, count_leading_zeros, count_trailing_zeros, under}
use Rattle.std.proofs.Math.Nat.{mod-eq_of_lt, mod-lt, mod-one, pow-suc, pow-le-pow_right}
use Rattle.std.proofs.Math.Arith.{mod-mul}
use Rattle.std.proofs.lemmas.Nat.{pow_pos, ones_cat, leading_length}
use Rattle.std.proofs.lemmas.Bool.Decides.{nat_tests}
use Rattle.wm_num.specs.Number.{digit, sum_below}
use Rattle.wm_num.specs.Unary.{leading_zero_count, trailing_zero_count, one_count}
use Rattle.wm_num.proofs.Sums.{sum_below-same, sum_below-zeros, sum_below-front, count_below-from}
use Rattle.wm_num.proofs.Digits.{mod-pow-suc}

-- ---- ones

-- a digit counts itself
ones_of_digit : (d : ℕ) → d < 2 → ones d ≡ d
unfolding ones
ones_of_digit zero h = refl
ones_of_digit (suc zero) h = refl
ones_of_digit (suc (suc d)) h = absurd (omega arith)

ones-mod : (w n : ℕ) → ones (n % 2 ^ w) ≡ one_count w n
unfolding sum_below
ones-mod zero n = ap ones (mod-one n) ∙ ones_of_digit 0 (lit< tt)
ones-mod (suc w) n =
    let joined = ap ones (mod-pow-suc w n) ∙ ones_cat w (digit n w) (n % 2 ^ w) (mod-lt n (pow_pos w)) in
    let last = ones_of_digit (digit n w) (mod-lt (n / 2 ^ w) {m = 2} (lit< tt)) in
    let ih = ones-mod w n in
    omega (arith, joined, last, ih)

pub ones_by_digits : (w n : ℕ) → n < 2 ^ w → ones n ≡ one_count w n
ones_by_digits w n fits = ap ones (sym (mod-eq_of_lt fits)) ∙ ones-mod w n

-- ---- leading zeros

pub leading_by_places : (w n : ℕ) → n < 2 ^ w → count_leading_zeros w n ≡ leading_zero_count w n
leading_by_places w n fits =
    let length = leading_length w n fits in
    let m : ℕ = length.0 in
    let counted : leading_zero_count w n + min m w ≡ w =
    count_below-from w m (λ i. nat_lt n (2 ^ i)) (λ i below. fails m length.3 i below) (λ i above. passes m length.2 i above) in
    let whole : count_leading_zeros w n + m ≡ w = length.1 in
    omega arith
  where
    fails : (m : ℕ) → 2 ^ m ≤ 2 * n + 1 → (i : ℕ) → i < m → nat_lt n (2 ^ i) ≡ false
    fails m top i below =
        let step : 2 ^ suc i ≤ 2 ^ m = pow-le-pow_right (lit< tt) below in
        let double = pow-suc 2 i in
        let under : 2 ^ i ≤ n = omega (arith, step, double, top) in
        grind (arith, nat_tests)

    passes : (m : ℕ) → n < 2 ^ m → (i : ℕ) → m ≤ i → nat_lt n (2 ^ i) ≡ true
    passes m top i above =
        let step : 2 ^ m ≤ 2 ^ i = pow-le-pow_right (lit< tt) above in
        let over : n < 2 ^ i = omega (arith, step, top) in
        grind (arith, nat_tests)

-- the place of the highest 1
leading_bounds : (w n m : ℕ) → count_leading_zeros w n + m ≡ w → n < 2 ^ m → 2 ^ m ≤ 2 * n + 1
    → (n < 2 ^ (w - count_leading_zeros w n)) × (0 < n → 2 ^ (w - 1 - count_leading_zeros w n) ≤ n)
leading_bounds w n zero total below reached =
    let rest : w - count_leading_zeros w n ≡ 0 = omega arith in
    (rw rest below, λ some. absurd (omega arith))
leading_bounds w n (suc j) total below reached =
    let rest : w - count_leading_zeros w n ≡ suc j = omega arith in
    let last : w - 1 - count_leading_zeros w n ≡ j = omega arith in
    let double = pow-suc 2 j in
    (rw rest below, λ some. rw last (omega (arith, double, reached)))

pub highest_one : (w n : ℕ) → n < 2 ^ w
    → (n < 2 ^ (w - count_leading_zeros w n)) × (0 < n → 2 ^ (w - 1 - count_leading_zeros w n) ≤ n)
highest_one w n fits = let length = leading_length w n fits in leading_bounds w n length.0 length.1 length.2 length.3

-- ---- trailing zeros

pub trailing_of_zero : (w : ℕ) → count_trailing_zeros w 0 ≡ w
unfolding count_trailing_zeros
trailing_of_zero zero = refl
trailing_of_zero (suc w) = ap suc (trailing_of_zero w)

divides_step : (w n d : ℕ) → n % 2 ≡ d → n / 2 % 2 ^ count_trailing_zeros w (n / 2) ≡ 0
    → n % 2 ^ under d (count_trailing_zeros w (n / 2)) ≡ 0
divides_step w n zero even ih =
    let t : ℕ = count_trailing_zeros w (n / 2) in
    let split = ap (λ (x : ℕ). n % x) (pow-suc 2 t) ∙ mod-mul n {m = 2 ^ t} {c = 2} (pow_pos t) (lit< tt) in
    omega (arith, split, ih, even)
divides_step w n (suc d) odd ih = mod-one n

-- 2 to the count of trailing zeros divides
pub trailing_divides : (w n : ℕ) → n % 2 ^ count_trailing_zeros w n ≡ 0
unfolding count_trailing_zeros
trailing_divides zero n = mod-one n
trailing_divides (suc w) n = divides_step w n (n % 2) refl (trailing_divides w (n / 2))

-- the remainder by a power of 2, by the lowest digit and the rest
lowest : (i n : ℕ) → n % 2 ^ (suc i + 1) ≡ (n / 2 % 2 ^ (i + 1)) * 2 + n % 2
lowest i n = ap (λ (x : ℕ). n % x) (ap (λ (x : ℕ). 2 ^ x) (omega arith) ∙ pow-suc 2 (i + 1)) ∙ mod-mul n {m = 2 ^ (i + 1)} {c = 2} (pow_pos (i + 1)) (lit< tt)

test_even : (i n : ℕ) → n % 2 ≡ 0 → (n % 2 ^ (suc i + 1) == 0) ≡ (n / 2 % 2 ^ (i + 1) == 0)
test_even i n even = let e = lowest i n in grind (arith, nat_tests)

test_odd : (i n d : ℕ) → n % 2 ≡ suc d → (n % 2 ^ (suc i + 1) == 0) ≡ false
test_odd i n d odd = let e = lowest i n in grind (arith, nat_tests)

test_suc : (d : ℕ) → (suc d == 0) ≡ false
test_suc d = grind (arith, nat_tests)

-- one more digit, where the places among the others are counted
trailing_step : (w n d : ℕ) → n % 2 ≡ d → count_trailing_zeros w (n / 2) ≡ trailing_zero_count w (n / 2)
    → under d (count_trailing_zeros w (n / 2))
    ≡ (if d == 0 then 1 else 0) + sum_below w (λ i. if n % 2 ^ (suc i + 1) == 0 then 1 else 0)
trailing_step w n zero even ih =
    let same = sum_below-same w (λ i. if n % 2 ^ (suc i + 1) == 0 then 1 else 0) (λ i. if n / 2 % 2 ^ (i + 1) == 0 then 1 else 0)
    (λ i. ap (λ (b : Bool). if b then 1 else 0) (test_even i n even)) in
    omega (arith, ih, same)
trailing_step w n (suc d) odd ih =
    let none = sum_below-same w (λ i. if n % 2 ^ (suc i + 1) == 0 then 1 else 0) (λ i. 0)
    (λ i. ap (λ (b : Bool). if b then 1 else 0) (test_odd i n d odd)) in
    rw (test_suc d) (omega (arith, none, sum_below-zeros w))

pub trailing_by_places : (w n : ℕ) → count_trailing_zeros w n ≡ trailing_zero_count w n
unfolding count_trailing_zeros sum_below
trailing_by_places zero n = refl
trailing_by_places (suc w) n =
    trailing_step w n (n % 2) refl (trailing_by_places w (n / 2))
    ∙ sym (sum_below-front w (λ i. if n % 2 ^ (i + 1) == 0 then 1 else 0))
