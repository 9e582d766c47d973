-- Which modules are valid (Core 1.0, section 3.4).
use Rattle.std.specs.Prelude.{ℕ, ◌≡◌, ◌≤◌, ◌<◌, List, Option, Some, None, length, slice_index, All}
use Rattle.wm_ast.specs.declared.types.ValType.{ValType}
use Rattle.wm_ast.specs.declared.types.ValType.TheVariants as value
use Rattle.wm_ast.specs.declared.module.Module.{Module}
use Rattle.wm_ast.specs.declared.module.Global.{Global}
use Rattle.wm_ast.specs.declared.module.DataSegment.{DataSegment}
use Rattle.wm_ast.specs.declared.module.Memory.{Memory}
use Rattle.wm_ast.specs.declared.module.ConstExpr.{ConstExpr}
use Rattle.wm_ast.specs.declared.module.ConstExpr.TheVariants.{I32, I64}
use Rattle.wm_ast.specs.declared.exports.Export.{Export}
use Rattle.wm_ast.specs.declared.exports.ExportKind.{ExportKind}
use Rattle.wm_ast.specs.declared.exports.ExportKind.TheVariants as kind
use Rattle.wm_ast.specs.Module.{memory_size}
use Rattle.wm_valid.specs.Typing.{TypedFunc}
use Rattle.wm_valid.specs.Memory.{init, Within}

-- the memory, if there is one, has a maximum of at most 65,536 pages, and no fewer than its initial pages
abbrev pub GoodLimits : Option Memory → Type 0
GoodLimits None = Unit {0}
GoodLimits (Some memory) = (memory.limits.minimum ≤ memory.limits.maximum) × (memory.limits.maximum ≤ 65536)

abbrev pub HasMemory : Option Memory → Type 0
HasMemory None = ⊥
HasMemory (Some memory) = Unit {0}

-- the constant is of this type
abbrev pub IsConstant : ValType → ConstExpr → Type 0
IsConstant value.I32 (I32 n) = Unit {0}
IsConstant value.I32 (I64 n) = ⊥
IsConstant value.I64 (I32 n) = ⊥
IsConstant value.I64 (I64 n) = Unit {0}

-- a global's initial value has its type
abbrev pub GoodGlobal : Global → Type 0
GoodGlobal g = IsConstant g.ty g.init

-- what is exported exists
abbrev pub Exports : Module → ExportKind → ℕ → Type 0
Exports m kind.Func k = k < length m.funcs
Exports m kind.Memory k = (k ≡ 0) × HasMemory m.memory
Exports m kind.Global k = k < length m.globals

abbrev pub GoodExport : Module → (List ℕ × Export) → Type 0
GoodExport m e = Exports m e.1.kind e.1.index

-- a data segment is within the memory, at an i32
pub record GoodData (m : Module) (d : DataSegment) : Type 0 where
  pub memory : HasMemory m.memory
  pub offset : IsConstant value.I32 d.offset
  pub within : Within (memory_size m) d

pub record Valid (m : Module) : Type 0 where
  pub limits : GoodLimits m.memory
  pub globals : All GoodGlobal m.globals
  pub exports : All (GoodExport m) m.exports
  pub segments : All (GoodData m) m.data
  pub funcs : All (TypedFunc m) m.funcs

-- the bytes are the initial memory
pub record IsInit (m : Module) (bytes : List ℕ) : Type 0 where
  pub size : length bytes ≡ memory_size m
  pub each : (k : ℕ) → k < memory_size m → slice_index bytes k ≡ init m k
