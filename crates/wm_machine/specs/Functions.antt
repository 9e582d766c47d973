-- What a call needs to know about its function.
use Rattle.std.specs.Prelude.{ℕ, List, [], drop, Option, Some, None, slice_get}
use Rattle.wm_ast.specs.declared.module.Module.{Module}
use Rattle.wm_ast.specs.declared.module.Func.{Func}
use Rattle.wm_ast.specs.declared.types.FuncType.{FuncType}
use Rattle.wm_ast.specs.declared.types.ValType.{ValType}
use Rattle.wm_ast.specs.declared.instr.Instr.{Instr}
use Rattle.wm_ast.specs.Module.{block_in, func_type}

-- the parameters and locals of a function, and its body
pub record Callable : Type 0 where
  pub params : List ValType
  pub locals : List ValType
  pub body : List Instr

abbrev pub callable_of : Option Func → Option FuncType → Option (List Instr) → Option Callable
callable_of None ty body = None
callable_of (Some f) None body = None
callable_of (Some f) (Some ty) None = None
callable_of (Some f) (Some ty) (Some body) = Some record { params = ty.params; locals = f.locals; body = body }

-- None if the function, its type or its body isn't there
abbrev pub callable : Module → ℕ → Option Callable
callable m func = callable_of (slice_get m.funcs func) (func_type m func) (block_in m.funcs func 0)

-- the instructions of a block from a place on
abbrev pub from_place : Option (List Instr) → ℕ → List Instr
from_place None at = []
from_place (Some block) at = drop at block

abbrev pub continuation : Module → ℕ → ℕ → ℕ → List Instr
continuation m func block at = from_place (block_in m.funcs func block) at

-- a function with these parameters and other locals, and its body
abbrev pub called_with : List ValType → List ValType → Module → ℕ → Callable
called_with params locals m func = record { params = params; locals = locals; body = continuation m func 0 0 }
