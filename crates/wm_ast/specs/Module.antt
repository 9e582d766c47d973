-- Looking up the items of a module by number.
use Rattle.std.specs.Prelude.{ℕ, ◌*◌, List, Option, Some, None, slice_get, option_and_then}
use Rattle.wm_ast.specs.declared.instr.Instr.{Instr}
use Rattle.wm_ast.specs.declared.module.Func.{Func}
use Rattle.wm_ast.specs.declared.module.Memory.{Memory}
use Rattle.wm_ast.specs.declared.module.Module.{Module}
use Rattle.wm_ast.specs.declared.types.FuncType.{FuncType}

-- block n of function f
abbrev pub block_in : List Func → ℕ → ℕ → Option (List Instr)
block_in funcs f n = option_and_then (λ func. slice_get func.blocks n) (slice_get funcs f)

-- the type of function f
abbrev pub func_type : Module → ℕ → Option FuncType
func_type m f = option_and_then (λ func. slice_get m.types func.type_index) (slice_get m.funcs f)

-- the initial number of pages
abbrev pub pages_of : Option Memory → ℕ
pages_of None = 0
pages_of (Some memory) = memory.limits.minimum

-- the initial number of bytes: a page has 65,536
abbrev pub memory_size : Module → ℕ
memory_size m = pages_of m.memory * 65536
