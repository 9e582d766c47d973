-- A number by its binary digits, and what the operators on bits are by them.
use Rattle.std.proofs.Common.{◌≡◌, ℕ, zero, suc, ◌+◌, ◌*◌, ◌%◌, ◌^◌, ◌<◌, ap, ◌∙◌, sym, arith, lit<, min, max, bit_and, bit_or, bit_xor}
use Rattle.std.proofs.Math.Nat.{mod-eq_of_lt, pow-suc, mul_comm, mod-one}
use Rattle.std.proofs.Math.Arith.{mod-mul}
use Rattle.std.proofs.lemmas.Nat.{pow_pos, and_le_l, or_lt, xor_lt}
use Rattle.std.proofs.lemmas.Nat.Bits.{bit_at_and, bit_at_or, bit_at_xor}
use Rattle.wm_num.specs.Number.{digit, sum_below, number_of}
use Rattle.wm_num.specs.Binary.{conjunction, disjunction, exclusive_disjunction}
use Rattle.wm_num.proofs.Sums.{sum_below-same}

-- one more digit of a number
pub mod-pow-suc : (w n : ℕ) → n % 2 ^ suc w ≡ digit n w * 2 ^ w + n % 2 ^ w
mod-pow-suc w n = ap (λ (x : ℕ). n % x) (pow-suc 2 w ∙ mul_comm (2 ^ w) 2) ∙ mod-mul n {m = 2} {c = 2 ^ w} (lit< tt) (pow_pos w)

-- the bits of an integer make up that integer, cut to this number of bits
pub number_of-digits : (w n : ℕ) → number_of w (λ i. digit n i) ≡ n % 2 ^ w
unfolding sum_below
number_of-digits zero n = sym (mod-one n)
number_of-digits (suc w) n = let ih = number_of-digits w n in let last = mod-pow-suc w n in omega (arith, ih, last)

-- a number of w digits is the one that digits equal to its own make up
pub number_of-same : (w n : ℕ) (d : ℕ → ℕ) → n < 2 ^ w → ((i : ℕ) → digit n i ≡ d i) → n ≡ number_of w d
number_of-same w n d fits same =
    sym (mod-eq_of_lt fits) ∙ sym (number_of-digits w n)
    ∙ sum_below-same w (λ i. digit n i * 2 ^ i) (λ i. d i * 2 ^ i) (λ i. ap (λ (x : ℕ). x * 2 ^ i) (same i))

pub and_by_digits : (w a b : ℕ) → a < 2 ^ w → bit_and a b ≡ conjunction w a b
and_by_digits w a b left =
    number_of-same w (bit_and a b) (λ i. min (digit a i) (digit b i)) (omega (arith, and_le_l a b)) (bit_at_and a b)

pub or_by_digits : (w a b : ℕ) → a < 2 ^ w → b < 2 ^ w → bit_or a b ≡ disjunction w a b
or_by_digits w a b left right =
    number_of-same w (bit_or a b) (λ i. max (digit a i) (digit b i)) (or_lt w a b left right) (bit_at_or a b)

pub xor_by_digits : (w a b : ℕ) → a < 2 ^ w → b < 2 ^ w → bit_xor a b ≡ exclusive_disjunction w a b
xor_by_digits w a b left right =
    number_of-same w (bit_xor a b) (λ i. (digit a i + digit b i) % 2) (xor_lt w a b left right) (bit_at_xor a b)
