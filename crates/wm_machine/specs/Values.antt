-- Values with their types.
use Rattle.std.specs.Prelude.{ℕ, List, Option, Some, None, slice_get, option_and_then}
use Rattle.wm_num.specs.declared.operator.Width.{Width}
use Rattle.wm_num.specs.declared.operator.Width.TheVariants.{W32, W64}
use Rattle.wm_ast.specs.declared.types.ValType.{ValType}
use Rattle.wm_ast.specs.declared.module.ConstExpr.{ConstExpr}
use Rattle.wm_ast.specs.declared.module.ConstExpr.TheVariants as constant
use Rattle.wm_ast.specs.declared.module.Global.{Global}
use Rattle.wm_ast.specs.Types.{width_of}
use Rattle.wm_machine.specs.declared.value.TypedValue.{TypedValue}
use Rattle.wm_machine.specs.declared.value.TypedValue.TheVariants.{I32, I64}

-- the value of this width with these bits
abbrev pub typed : Width → ℕ → TypedValue
typed W32 n = I32 n
typed W64 n = I64 n

-- the bits of a value, if it has this width
abbrev pub number : Width → TypedValue → Option ℕ
number W32 (I32 n) = Some n
number W32 (I64 n) = None
number W64 (I32 n) = None
number W64 (I64 n) = Some n

-- the bits of the operand at a depth, counted from the top, if it has this width
abbrev pub number_at : Width → List TypedValue → ℕ → Option ℕ
number_at width operands depth = option_and_then (number width) (slice_get operands depth)

-- the bits, whatever the type
abbrev pub bits_of : TypedValue → ℕ
bits_of (I32 n) = n
bits_of (I64 n) = n

-- the initial value of a local
abbrev pub zero_of : ValType → TypedValue
zero_of ty = typed (width_of ty) 0

-- the initial value of a global
abbrev pub constant_of : ConstExpr → TypedValue
constant_of (constant.I32 n) = I32 n
constant_of (constant.I64 n) = I64 n

abbrev pub initial_of : Global → TypedValue
initial_of global = constant_of global.init
