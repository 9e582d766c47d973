-- The integer meaning of the operators on one operand (WebAssembly Core 1.0, section 4.3.2). Here w is the number of bits.
use Rattle.std.specs.Prelude.{ℕ, ◌+◌, ◌%◌, ◌^◌, ◌==◌, nat_lt}
use Rattle.wm_num.specs.declared.operator.UnaryOperator.{UnaryOperator}
use Rattle.wm_num.specs.declared.operator.UnaryOperator.TheVariants.{Clz, Ctz, Popcnt}
use Rattle.wm_num.specs.declared.operator.Width.{Width}
use Rattle.wm_num.specs.Number.{bits_of, digit, sum_below, count_below}

-- the number of zeros above the highest 1: each bit i below w with u < 2^i, so w if u is 0
abbrev pub leading_zero_count : ℕ → ℕ → ℕ
leading_zero_count w u = count_below w (λ i. nat_lt u (2 ^ i))

-- the number of zeros below the lowest 1: each bit i below w such that 2^(i + 1) divides u, so w if u is 0
abbrev pub trailing_zero_count : ℕ → ℕ → ℕ
trailing_zero_count w u = count_below w (λ i. u % 2 ^ (i + 1) == 0)

-- the number of bits that are 1
abbrev pub one_count : ℕ → ℕ → ℕ
one_count w u = sum_below w (λ i. digit u i)

-- the result of an operator for an operand of a width
abbrev pub unary_meaning : UnaryOperator → Width → ℕ → ℕ
unary_meaning Clz width u = leading_zero_count (bits_of width) u
unary_meaning Ctz width u = trailing_zero_count (bits_of width) u
unary_meaning Popcnt width u = one_count (bits_of width) u
