-- Reading types, and the contents of sections.
use Rattle.std.specs.Prelude.{ℕ, ◌-◌, ◌^◌, List, [], ◌∷◌, ◌++◌, length, Bool, true, Option, Some, None, is_some, Result, Ok, Err, nat_lt, ◌==◌, if◌then◌else◌}
use Rattle.wm_ast.specs.Exports.{export_at}
use Rattle.wm_ast.specs.declared.types.ValType.{ValType}
use Rattle.wm_ast.specs.declared.types.FuncType.{FuncType}
use Rattle.wm_ast.specs.declared.types.Limits.{Limits}
use Rattle.wm_ast.specs.declared.types.Mutability.{Mutability}
use Rattle.wm_ast.specs.declared.types.Mutability.TheVariants.{Constant, Variable}
use Rattle.wm_ast.specs.declared.exports.Export.{Export}
use Rattle.wm_ast.specs.declared.exports.ExportKind.{ExportKind}
use Rattle.wm_ast.specs.declared.exports.ExportKind.TheVariants as kind
use Rattle.wm_ast.specs.declared.module.ConstExpr.{ConstExpr}
use Rattle.wm_ast.specs.declared.module.ConstExpr.TheVariants.{I32, I64}
use Rattle.wm_ast.specs.declared.module.Func.{Func}
use Rattle.wm_ast.specs.declared.module.Global.{Global}
use Rattle.wm_ast.specs.declared.module.Memory.{Memory}
use Rattle.wm_ast.specs.declared.module.DataSegment.{DataSegment}
use Rattle.wm_decode.specs.declared.fault.Limit.TheVariants.{Pages, Functions, Locals}
use Rattle.wm_decode.specs.Bounds.{Bounds}
use Rattle.wm_decode.specs.declared.fault.Feature.{Feature}
use Rattle.wm_decode.specs.declared.fault.Feature.TheVariants as feature
use Rattle.wm_decode.specs.declared.fault.FaultKind.{FaultKind}
use Rattle.wm_decode.specs.declared.fault.FaultKind.TheVariants as fault
use Rattle.wm_decode.specs.Stop.{Stop, stop, ended, past}
use Rattle.wm_decode.specs.Faults.{limits_fault, import_kind_fault, export_kind_fault, segment_flag_fault}
use Rattle.wm_decode.specs.Reading.{◌>>=◌, signed_at}
use Rattle.wm_decode.specs.ReadingVectors.{u32_at, items_at, vector_at, filled_at, own_bytes_at, byte_vector_at, name_at, more_at}
use Rattle.wm_decode.specs.ReadingInstructions.{value_type_at, blocks_at}
use Rattle.wm_decode.specs.Parts.{locals_of}
use Rattle.wm_decode.specs.Module.{params_of}

abbrev pub Read : Type 0 → Type 0
Read X = Result (X × List ℕ) Stop

-- this byte; `wrong` gives the fault of another byte
abbrev pub byte_at : (ℕ → FaultKind) → ℕ → List ℕ → Result (List ℕ) Stop
byte_at wrong code [] = Err ended
byte_at wrong code (b ∷ bytes) = if b == code then Ok bytes else Err (stop (wrong b) (length (b ∷ bytes)))

abbrev pub unsupported : Feature → List ℕ → Stop
unsupported part bytes = stop (fault.Unsupported part) (length bytes)

abbrev pub bad_number : List ℕ → Stop
bad_number bytes = stop fault.BadNumber (length bytes)

-- at most one result
unfoldable pub result_at : List ℕ → Read (Option ValType)
result_at bytes = do
  count ← u32_at bytes
  if count.0 == 0 then Ok (None, count.1) else (if count.0 == 1 then (value_type_at count.1 >>= λ ty. Ok (Some ty.0, ty.1)) else Err (unsupported feature.MultiValue bytes))

unfoldable pub func_type_at : List ℕ → Read FuncType
func_type_at bytes = do
  rest ← byte_at (λ b. fault.BadNumber) 0x60 bytes
  params ← vector_at value_type_at rest
  result ← result_at params.1
  Ok (record { params = params.0; result = result.0 }, result.1)

unfoldable pub limits_at : Bounds → List ℕ → Read Limits
limits_at bounds bytes = do
  rest ← byte_at limits_fault 0x03 bytes
  least ← u32_at rest
  if nat_lt bounds.pages least.0 then Err (past Pages (length rest)) else (u32_at least.1 >>= λ most. Ok (record { minimum = least.0; maximum = most.0 }, most.1))

unfoldable pub import_at : Bounds → List ℕ → Read Memory
import_at bounds bytes = do
  from ← name_at bytes
  name ← name_at from.1
  rest ← byte_at import_kind_fault 0x02 name.1
  limits ← limits_at bounds rest
  Ok (record { limits = limits.0; import = Some (record { «module» = from.0; name = name.0 }) }, limits.1)

-- another import, after the memory: reading stops at its kind, or before
unfoldable pub second_import_at : List ℕ → Read (Option Memory)
second_import_at bytes = do
  from ← name_at bytes
  name ← name_at from.1
  rest ← byte_at import_kind_fault 0x02 name.1
  Err (unsupported feature.SeveralMemories name.1)

-- at most one import
unfoldable pub imports_at : Bounds → List ℕ → Read (Option Memory)
imports_at bounds bytes = do
  count ← u32_at bytes
  if count.0 == 0 then Ok (None, count.1) else do
    memory ← import_at bounds count.1
    if count.0 == 1 then Ok (Some memory.0, memory.1) else second_import_at memory.1

-- at most one memory, and none if one was imported
unfoldable pub memories_at : Bounds → Bool → List ℕ → Read (Option Limits)
memories_at bounds imported bytes = do
  count ← u32_at bytes
  if count.0 == 0 then Ok (None, count.1) else (if imported then Err (unsupported feature.SeveralMemories bytes) else (
      if count.0 == 1 then (limits_at bounds count.1 >>= λ limits. Ok (Some limits.0, limits.1)) else Err (unsupported feature.SeveralMemories bytes)))

unfoldable pub indices_at : Bounds → List ℕ → Read (List ℕ)
indices_at bounds bytes = do
  count ← u32_at bytes
  if nat_lt bounds.functions count.0 then Err (past Functions (length bytes)) else items_at u32_at count.0 count.1

-- a vector with no items
unfoldable pub no_items_at : List ℕ → Read ℕ
no_items_at bytes = do
  count ← u32_at bytes
  if count.0 == 0 then Ok count else Err (unsupported feature.Table bytes)

-- the end of an initial value
abbrev pub end_at : List ℕ → Result (List ℕ) Stop
end_at bytes = byte_at (λ b. fault.Unsupported feature.ConstExpression) 0x0B bytes

unfoldable pub initial_at : List ℕ → Read ConstExpr
initial_at [] = Err ended
initial_at (b ∷ bytes) =
    if b == 0x41 then (signed_at (2 ^ 32 - 1) bytes >>= λ n. end_at n.1 >>= λ rest. Ok (I32 n.0, rest)) else (
    if b == 0x42 then (signed_at (2 ^ 64 - 1) bytes >>= λ n. end_at n.1 >>= λ rest. Ok (I64 n.0, rest)) else
    Err (unsupported feature.ConstExpression (b ∷ bytes)))

unfoldable pub mutability_at : List ℕ → Read Mutability
mutability_at [] = Err ended
mutability_at (b ∷ bytes) = if b == 0x00 then Ok (Constant, bytes) else (if b == 0x01 then Ok (Variable, bytes) else Err (bad_number (b ∷ bytes)))

unfoldable pub global_at : List ℕ → Read Global
global_at bytes = do
  ty ← value_type_at bytes
  mutability ← mutability_at ty.1
  init ← initial_at mutability.1
  Ok (record { ty = ty.0; mutability = mutability.0; init = init.0 }, init.1)

unfoldable pub export_kind_at : List ℕ → Read ExportKind
export_kind_at [] = Err ended
export_kind_at (b ∷ bytes) =
    if b == 0x00 then Ok (kind.Func, bytes) else (if b == 0x02 then Ok (kind.Memory, bytes) else (if b == 0x03 then Ok (kind.Global, bytes) else
    Err (stop (export_kind_fault b) (length (b ∷ bytes)))))

-- an export whose name differs from all earlier ones
unfoldable pub export_entry_at : List (List ℕ × Export) → List ℕ → Read (List ℕ × Export)
export_entry_at earlier bytes = do
  name ← name_at bytes
  if is_some (export_at name.0 earlier) then Err (stop fault.DuplicateExport (length bytes)) else do
    kind ← export_kind_at name.1
    index ← u32_at kind.1
    Ok ((name.0, record { kind = kind.0; index = index.0 }), index.1)

abbrev pub export_step : List (List ℕ × Export) → List ℕ → Read (List (List ℕ × Export))
export_step earlier bytes = export_entry_at earlier bytes >>= λ e. Ok (earlier ++ e.0 ∷ [], e.1)

unfoldable pub exports_at : List ℕ → Read (List (List ℕ × Export))
exports_at bytes = do
  count ← u32_at bytes
  more_at export_step count.0 [] count.1

-- an entry of at most locals_left locals
unfoldable pub local_entry_at : ℕ → List ℕ → Read (ℕ × ValType)
local_entry_at locals_left bytes = do
  count ← u32_at bytes
  if nat_lt locals_left count.0 then Err (past Locals (length bytes)) else (value_type_at count.1 >>= λ ty. Ok ((count.0, ty.0), ty.1))

abbrev pub local_step : ℕ → List ValType → List ℕ → Read (List ValType)
local_step most earlier bytes = local_entry_at (most - length earlier) bytes >>= λ e. Ok (earlier ++ locals_of e.0.0 e.0.1, e.1)

unfoldable pub locals_at : ℕ → List ℕ → Read (List ValType)
locals_at most bytes = do
  entries ← u32_at bytes
  more_at (local_step most) entries.0 [] entries.1

-- a function with at most `most` locals, from exactly its own bytes
unfoldable pub function_at : Bounds → ℕ → ℕ → List ℕ → Read Func
function_at bounds most index bytes = do
  locals ← locals_at most bytes
  blocks ← blocks_at bounds.nesting locals.1
  Ok (record { type_index = index; locals = locals.0; blocks = blocks.0 }, blocks.1)

-- a function of the type of this index, with its size; a fault of the whole function is at the size
unfoldable pub sized_function_at : Bounds → List FuncType → ℕ → List ℕ → Read Func
sized_function_at bounds types index bytes = do
  content ← own_bytes_at (stop fault.SectionSize (length bytes)) bytes
  if nat_lt bounds.locals (params_of types index) then Err (past Locals (length bytes)) else
      filled_at (function_at bounds (bounds.locals - params_of types index) index) content

-- functions of the types of these indices after the earlier ones, all of them
unfoldable pub more_functions_at : Bounds → List FuncType → List ℕ → List Func → List ℕ → Read (List Func)
more_functions_at bounds types [] earlier bytes = Ok (earlier, bytes)
more_functions_at bounds types (index ∷ indices) earlier bytes = do
  first ← sized_function_at bounds types index bytes
  more_functions_at bounds types indices (earlier ++ first.0 ∷ []) first.1

unfoldable pub code_at : Bounds → List FuncType → List ℕ → List ℕ → Read (List Func)
code_at bounds types indices bytes = do
  count ← u32_at bytes
  if count.0 == length indices then more_functions_at bounds types indices [] count.1 else Err (stop fault.CountMismatch (length bytes))

unfoldable pub segment_at : List ℕ → Read DataSegment
segment_at bytes = do
  rest ← byte_at segment_flag_fault 0x00 bytes
  offset ← initial_at rest
  content ← byte_vector_at offset.1
  Ok (record { offset = offset.0; bytes = content.0 }, content.1)

-- a declared count, if there is one
abbrev pub agrees : Option ℕ → ℕ → Bool
agrees None count = true
agrees (Some n) count = count == n

unfoldable pub segments_at : Option ℕ → List ℕ → Read (List DataSegment)
segments_at declared bytes = do
  count ← u32_at bytes
  if agrees declared count.0 then items_at segment_at count.0 count.1 else Err (stop fault.CountMismatch (length bytes))
