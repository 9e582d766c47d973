-- The machine's rotations are sums of a product and a quotient.
use Rattle.std.proofs.Common.{◌≡◌, ℕ, zero, suc, ◌+◌, ◌-◌, ◌*◌, ◌/◌, ◌%◌, ◌^◌, ◌<◌, ap, ap₂, ◌∙◌, sym, subst, arith, bit_or}
use Rattle.std.proofs.Math.Nat.{mod-eq_of_lt, div-eq_of_lt, mod-one, mul-one, mul-mod_left, mod_self, div-one}
use Rattle.std.proofs.Math.Arith.{mod-mul}
use Rattle.std.proofs.lemmas.Nat.{pow_pos, pow-add, shl-shr, or_shifted, or_comm, shr_below}
use Rattle.std.proofs.lemmas.Nat.Bits.{bit_at_or, same_from_bits}
use Rattle.wm_num.specs.Binary.{rotated_left, rotated_right}

-- a number's digits, each or-ed with itself
or_self : (n : ℕ) → bit_or n n ≡ n
or_self n = same_from_bits (bit_or n n) n (λ i. bit_at_or n n i ∙ omega arith)

-- a product by 2^k, cut to j + k digits, has the factor's j low digits
scaled : (n j k w : ℕ) → w ≡ j + k → (n * 2 ^ k) % 2 ^ w ≡ (n % 2 ^ j) * 2 ^ k
scaled n j k w e =
    ap (λ (x : ℕ). (n * 2 ^ k) % x) (ap (λ (x : ℕ). 2 ^ x) e ∙ pow-add 2 j k)
    ∙ mod-mul (n * 2 ^ k) {m = 2 ^ j} {c = 2 ^ k} (pow_pos j) (pow_pos k)
    ∙ ap₂ (λ (x y : ℕ). (x % 2 ^ j) * 2 ^ k + y) (shl-shr n k) (mul-mod_left n (2 ^ k))
    ∙ omega arith

-- all w places from the other end are none
whole_turn : (w : ℕ) → (w - 0) % w ≡ 0
whole_turn w = ap (λ (x : ℕ). x % w) (omega arith) ∙ mod_self w

-- a product by 1, cut to the number's digits
times_one : (w n : ℕ) → n < 2 ^ w → (n * 1) % 2 ^ w ≡ n
times_one w n fits = ap (λ (x : ℕ). x % 2 ^ w) (mul-one n) ∙ mod-eq_of_lt fits

-- a turn by k of w places: the machine's count of the places from the other end
other_end : (w k : ℕ) → 0 < k → k < w → (w - k) % w ≡ w - k
other_end w k some within = mod-eq_of_lt (omega arith)

left_turn : (w n k : ℕ) → n < 2 ^ w → 0 < k → k < w
    → bit_or ((n * 2 ^ k) % 2 ^ w) (n / 2 ^ ((w - k) % w)) ≡ (n * 2 ^ k) % 2 ^ w + n / 2 ^ (w - k)
left_turn w n k fits some within =
    let total : w ≡ k + (w - k) = omega arith in
    let same : (n * 2 ^ k) % 2 ^ w ≡ (n % 2 ^ (w - k)) * 2 ^ k = scaled n (w - k) k w (omega arith) in
    let high : n / 2 ^ (w - k) < 2 ^ k = shr_below n k (w - k) (subst (λ (x : ℕ). n < 2 ^ x) total fits) in
    ap₂ bit_or same (ap (λ (x : ℕ). n / 2 ^ x) (other_end w k some within))
    ∙ or_shifted (n % 2 ^ (w - k)) k (n / 2 ^ (w - k)) high
    ∙ ap (λ (x : ℕ). x + n / 2 ^ (w - k)) (sym same)

left_start : (w n : ℕ) → n < 2 ^ w → bit_or ((n * 1) % 2 ^ w) (n / 2 ^ ((w - 0) % w)) ≡ (n * 1) % 2 ^ w + n / 2 ^ (w - 0)
left_start w n fits =
    ap₂ bit_or (times_one w n fits) (ap (λ (x : ℕ). n / 2 ^ x) (whole_turn w) ∙ div-one n) ∙ or_self n
    ∙ (let one = times_one w n fits in
    let none : n / 2 ^ (w - 0) ≡ 0 = ap (λ (x : ℕ). n / 2 ^ x) (omega arith) ∙ div-eq_of_lt fits in
    omega (arith, one, none))

pub rotated_left_is : (w n k : ℕ) → n < 2 ^ w → k < w
    → bit_or ((n * 2 ^ (k % w)) % 2 ^ w) (n / 2 ^ ((w - k % w) % w)) ≡ rotated_left w n k
rotated_left_is w n k fits within = rw (mod-eq_of_lt within) (go k within)
  where
    go : (k : ℕ) → k < w → bit_or ((n * 2 ^ k) % 2 ^ w) (n / 2 ^ ((w - k) % w)) ≡ rotated_left w n k
    go zero within = left_start w n fits
    go (suc j) within = left_turn w n (suc j) fits (omega arith) within

right_turn : (w n k : ℕ) → n < 2 ^ w → 0 < k → k < w
    → bit_or (n / 2 ^ k) ((n * 2 ^ ((w - k) % w)) % 2 ^ w) ≡ n / 2 ^ k + n % 2 ^ k * 2 ^ (w - k)
right_turn w n k fits some within =
    let total : w ≡ (w - k) + k = omega arith in
    let high : n / 2 ^ k < 2 ^ (w - k) = shr_below n (w - k) k (subst (λ (x : ℕ). n < 2 ^ x) total fits) in
    ap (λ (x : ℕ). bit_or (n / 2 ^ k) ((n * 2 ^ x) % 2 ^ w)) (other_end w k some within)
    ∙ ap (λ (x : ℕ). bit_or (n / 2 ^ k) x) (scaled n k (w - k) w (omega arith))
    ∙ or_comm (n / 2 ^ k) (n % 2 ^ k * 2 ^ (w - k))
    ∙ or_shifted (n % 2 ^ k) (w - k) (n / 2 ^ k) high
    ∙ omega arith

right_start : (w n : ℕ) → n < 2 ^ w → bit_or (n / 1) ((n * 2 ^ ((w - 0) % w)) % 2 ^ w) ≡ n / 1 + n % 1 * 2 ^ (w - 0)
right_start w n fits =
    ap₂ bit_or (div-one n) (ap (λ (x : ℕ). (n * 2 ^ x) % 2 ^ w) (whole_turn w) ∙ times_one w n fits) ∙ or_self n
    ∙ (let one = div-one n in
    let none : n % 1 * 2 ^ (w - 0) ≡ 0 = ap (λ (x : ℕ). x * 2 ^ (w - 0)) (mod-one n) ∙ omega arith in
    omega (arith, one, none))

pub rotated_right_is : (w n k : ℕ) → n < 2 ^ w → k < w
    → bit_or (n / 2 ^ (k % w)) ((n * 2 ^ ((w - k % w) % w)) % 2 ^ w) ≡ rotated_right w n k
rotated_right_is w n k fits within = rw (mod-eq_of_lt within) (go k within)
  where
    go : (k : ℕ) → k < w → bit_or (n / 2 ^ k) ((n * 2 ^ ((w - k) % w)) % 2 ^ w) ≡ rotated_right w n k
    go zero within = right_start w n fits
    go (suc j) within = right_turn w n (suc j) fits (omega arith) within
