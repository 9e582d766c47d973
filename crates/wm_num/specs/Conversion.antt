-- The meaning of the conversions between widths, and of the low bytes of a value (WebAssembly Core 1.0, sections 4.3.4
-- and 4.4.4).
use Rattle.std.specs.Prelude.{ℕ, ℤ, pos, ◌*◌, ◌%◌, ◌^◌}
use Rattle.wm_access.specs.declared.AccessWidth.{AccessWidth}
use Rattle.wm_access.specs.AccessWidth.{bytes_of}
use Rattle.wm_num.specs.declared.sign.Signedness.{Signedness}
use Rattle.wm_num.specs.declared.sign.Signedness.TheVariants.{Signed, Unsigned}
use Rattle.wm_num.specs.declared.operator.Conversion.{Conversion}
use Rattle.wm_num.specs.declared.operator.Conversion.TheVariants.{WrapI64, ExtendI32S, ExtendI32U}
use Rattle.wm_num.specs.declared.operator.Width.{Width}
use Rattle.wm_num.specs.declared.operator.Width.TheVariants.{W32, W64}
use Rattle.wm_num.specs.Number.{bits_of, signed_view, residue}

-- the width that a conversion takes, and the one that it gives
abbrev pub source_of : Conversion → Width
source_of WrapI64 = W64
source_of ExtendI32S = W32
source_of ExtendI32U = W32

abbrev pub target_of : Conversion → Width
target_of WrapI64 = W32
target_of ExtendI32S = W64
target_of ExtendI32U = W64

-- the view of w bits as a signed or unsigned integer
abbrev pub view_of : Signedness → ℕ → ℕ → ℤ
view_of Signed w u = signed_view w u
view_of Unsigned w u = pos u

-- the result of a conversion
abbrev pub conversion_meaning : Conversion → ℕ → ℕ
conversion_meaning WrapI64 u = u % 2 ^ 32
conversion_meaning ExtendI32S u = residue 64 (signed_view 32 u)
conversion_meaning ExtendI32U u = u

-- the low bytes of a value
abbrev pub low_part : AccessWidth → ℕ → ℕ
low_part bytes v = v % 2 ^ (8 * bytes_of bytes)

-- the low bytes of v, read as an integer of this number of bytes, as an operand of the width
abbrev pub extension_meaning : Signedness → AccessWidth → Width → ℕ → ℕ
extension_meaning sign bytes width v = residue (bits_of width) (view_of sign (8 * bytes_of bytes) (low_part bytes v))
