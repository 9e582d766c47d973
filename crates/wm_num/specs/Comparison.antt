-- The meaning of the comparisons (WebAssembly Core 1.0, section 4.3.2). Here w is the number of bits.
use Rattle.std.specs.Prelude.{ℕ, Bool, not, ◌==◌, nat_lt, nat_le, int_lt, int_le}
use Rattle.wm_num.specs.declared.operator.Comparison.{Comparison}
use Rattle.wm_num.specs.declared.operator.Comparison.TheVariants.{Eq, Ne, LtS, LtU, GtS, GtU, LeS, LeU, GeS, GeU}
use Rattle.wm_num.specs.declared.operator.Width.{Width}
use Rattle.wm_num.specs.Number.{bits_of, signed_view}

-- the order of the signed views
abbrev pub signed_lt : ℕ → ℕ → ℕ → Bool
signed_lt w a b = int_lt (signed_view w a) (signed_view w b)

abbrev pub signed_le : ℕ → ℕ → ℕ → Bool
signed_le w a b = int_le (signed_view w a) (signed_view w b)

-- whether a comparison holds of two operands of w bits
abbrev pub holds_at : Comparison → ℕ → ℕ → ℕ → Bool
holds_at Eq w a b = a == b
holds_at Ne w a b = not (a == b)
holds_at LtS w a b = signed_lt w a b
holds_at LtU w a b = nat_lt a b
holds_at GtS w a b = signed_lt w b a
holds_at GtU w a b = nat_lt b a
holds_at LeS w a b = signed_le w a b
holds_at LeU w a b = nat_le a b
holds_at GeS w a b = signed_le w b a
holds_at GeU w a b = nat_le b a

-- whether a comparison holds of two operands of a width
abbrev pub comparison_meaning : Comparison → Width → ℕ → ℕ → Bool
comparison_meaning op width a b = holds_at op (bits_of width) a b
