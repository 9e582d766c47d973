-- Operands as integers, with their signed views and their bits.
use Rattle.std.specs.Prelude.{ℕ, zero, suc, ◌+◌, ◌-◌, ◌*◌, ◌/◌, ◌%◌, ◌^◌, ◌<◌, Bool, if◌then◌else◌, nat_lt, ℤ, pos, ◌-ℤ◌, unsigned_abs}
use Rattle.std.specs.Int.{int_rem_euclid}
use Rattle.wm_num.specs.declared.operator.Width.{Width}
use Rattle.wm_num.specs.declared.operator.Width.TheVariants.{W32, W64}

-- how many bits an operand of the width has
abbrev pub bits_of : Width → ℕ
bits_of W32 = 32
bits_of W64 = 64

-- u is an operand of the width
abbrev pub IsOperand : Width → ℕ → Type 0
IsOperand width u = u < 2 ^ bits_of width

-- the signed view of an integer u of w bits: u, or u - 2^w if u is at least 2^(w-1)
abbrev pub signed_view : ℕ → ℕ → ℤ
signed_view w u = if nat_lt u (2 ^ (w - 1)) then pos u else pos u -ℤ pos (2 ^ w)

-- z modulo 2^w, as an integer of w bits
abbrev pub residue : ℕ → ℤ → ℕ
residue w z = unsigned_abs (int_rem_euclid z (pos (2 ^ w)))

-- bit i of n, where bit 0 is the lowest
abbrev pub digit : ℕ → ℕ → ℕ
digit n i = n / 2 ^ i % 2

-- f 0 + f 1 + .. + f (w - 1)
unfoldable pub sum_below : ℕ → (ℕ → ℕ) → ℕ
sum_below zero f = 0
sum_below (suc w) f = sum_below w f + f w

-- the integer of w bits whose bit i is d i
abbrev pub number_of : ℕ → (ℕ → ℕ) → ℕ
number_of w d = sum_below w (λ i. d i * 2 ^ i)

-- how many numbers below w pass the test
abbrev pub count_below : ℕ → (ℕ → Bool) → ℕ
count_below w p = sum_below w (λ i. if p i then 1 else 0)
