-- The integer meaning of the operators on two operands (WebAssembly Core 1.0, section 4.3.2). Here w is the number of bits.
use Rattle.std.specs.Prelude.{◌≡◌, ℕ, ◌+◌, ◌-◌, ◌*◌, ◌/◌, ◌%◌, ◌^◌, min, max, Bool, true, false, ◌==◌, if◌then◌else◌, pos, int_div, int_rem, int_le}
use Rattle.std.specs.Prelude.{Result, Ok, Err}
use Rattle.std.specs.Int.{int_div_euclid}
use Rattle.wm_num.specs.declared.operator.BinaryOperator.{BinaryOperator}
use Rattle.wm_num.specs.declared.operator.BinaryOperator.TheVariants.{Add, Sub, Mul, DivS, DivU, RemS, RemU, And, Or, Xor, Shl, ShrS, ShrU, Rotl, Rotr}
use Rattle.wm_num.specs.declared.operator.NumTrap.{NumTrap}
use Rattle.wm_num.specs.declared.operator.NumTrap.TheVariants.{DivideByZero, Overflow}
use Rattle.wm_num.specs.declared.operator.Width.{Width}
use Rattle.wm_num.specs.Number.{bits_of, signed_view, residue, digit, number_of}

-- the operator divides, so a right operand of 0 traps
abbrev pub divides : BinaryOperator → Bool
divides DivS = true
divides DivU = true
divides RemS = true
divides RemU = true
divides _ = false

-- the quotient of the signed views, truncated toward 0, is above the greatest signed value
abbrev pub quotient_overflows : ℕ → ℕ → ℕ → Bool
quotient_overflows w a b = int_le (pos (2 ^ (w - 1))) (int_div (signed_view w a) (signed_view w b))

-- sums, differences and products modulo 2^w
abbrev pub sum_modulo : ℕ → ℕ → ℕ → ℕ
sum_modulo w a b = (a + b) % 2 ^ w

abbrev pub difference_modulo : ℕ → ℕ → ℕ → ℕ
difference_modulo w a b = (a + 2 ^ w - b) % 2 ^ w

abbrev pub product_modulo : ℕ → ℕ → ℕ → ℕ
product_modulo w a b = (a * b) % 2 ^ w

-- the quotient of the signed views, truncated toward 0
abbrev pub signed_quotient : ℕ → ℕ → ℕ → ℕ
signed_quotient w a b = residue w (int_div (signed_view w a) (signed_view w b))

-- their remainder, with the sign of the dividend
abbrev pub signed_remainder : ℕ → ℕ → ℕ → ℕ
signed_remainder w a b = residue w (int_rem (signed_view w a) (signed_view w b))

-- bit i of the result is 1 if both bits i are, if one of them is, and if they differ
abbrev pub conjunction : ℕ → ℕ → ℕ → ℕ
conjunction w a b = number_of w (λ i. min (digit a i) (digit b i))

abbrev pub disjunction : ℕ → ℕ → ℕ → ℕ
disjunction w a b = number_of w (λ i. max (digit a i) (digit b i))

abbrev pub exclusive_disjunction : ℕ → ℕ → ℕ → ℕ
exclusive_disjunction w a b = number_of w (λ i. (digit a i + digit b i) % 2)

-- a shifted left by k bits: bits shifted past 2^w are lost
abbrev pub shifted_left : ℕ → ℕ → ℕ → ℕ
shifted_left w a k = (a * 2 ^ k) % 2 ^ w

-- a shifted right by k bits: the quotient by 2^k, rounded down, of a and of its signed view
abbrev pub shifted_right : ℕ → ℕ → ℕ
shifted_right a k = a / 2 ^ k

abbrev pub signed_shifted_right : ℕ → ℕ → ℕ → ℕ
signed_shifted_right w a k = residue w (int_div_euclid (signed_view w a) (pos (2 ^ k)))

-- the same, but the k bits shifted out at one end come in at the other
abbrev pub rotated_left : ℕ → ℕ → ℕ → ℕ
rotated_left w a k = (a * 2 ^ k) % 2 ^ w + a / 2 ^ (w - k)

abbrev pub rotated_right : ℕ → ℕ → ℕ → ℕ
rotated_right w a k = a / 2 ^ k + a % 2 ^ k * 2 ^ (w - k)

-- the trap of a division by 0, and x otherwise
abbrev pub unless_zero : ℕ → Result ℕ NumTrap → Result ℕ NumTrap
unless_zero b x = if b == 0 then Err DivideByZero else x

-- the signed quotient, or the trap of a division
abbrev pub divided : ℕ → ℕ → ℕ → Result ℕ NumTrap
divided w a b = unless_zero b (if quotient_overflows w a b then Err Overflow else Ok (signed_quotient w a b))

-- the result of an operator for operands of w bits
abbrev pub result_of : BinaryOperator → ℕ → ℕ → ℕ → Result ℕ NumTrap
result_of Add w a b = Ok (sum_modulo w a b)
result_of Sub w a b = Ok (difference_modulo w a b)
result_of Mul w a b = Ok (product_modulo w a b)
result_of DivS w a b = divided w a b
result_of DivU w a b = unless_zero b (Ok (a / b))
result_of RemS w a b = unless_zero b (Ok (signed_remainder w a b))
result_of RemU w a b = unless_zero b (Ok (a % b))
result_of And w a b = Ok (conjunction w a b)
result_of Or w a b = Ok (disjunction w a b)
result_of Xor w a b = Ok (exclusive_disjunction w a b)
result_of Shl w a b = Ok (shifted_left w a (b % w))
result_of ShrS w a b = Ok (signed_shifted_right w a (b % w))
result_of ShrU w a b = Ok (shifted_right a (b % w))
result_of Rotl w a b = Ok (rotated_left w a (b % w))
result_of Rotr w a b = Ok (rotated_right w a (b % w))

-- the least signed value, divided by -1: both as operands of w bits
abbrev pub DividesLeastByMinusOne : ℕ → BinaryOperator → ℕ → ℕ → Type 0
DividesLeastByMinusOne w op a b = (op ≡ DivS) × (a ≡ 2 ^ (w - 1)) × (b ≡ 2 ^ w - 1)

-- the result of an operator for operands of a width
abbrev pub binary_meaning : BinaryOperator → Width → ℕ → ℕ → Result ℕ NumTrap
binary_meaning op width a b = result_of op (bits_of width) a b
