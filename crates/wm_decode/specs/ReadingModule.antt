-- Reading sections and modules.
use Rattle.std.specs.Prelude.{ℕ, zero, suc, ◌-◌, List, [], ◌∷◌, length, Option, Some, None, is_some, Result, Ok, Err, nat_lt, ◌==◌, if◌then◌else◌}
use Rattle.wm_ast.specs.declared.module.DataSegment.{DataSegment}
use Rattle.wm_ast.specs.declared.module.Func.{Func}
use Rattle.wm_ast.specs.declared.module.Module.{Module}
use Rattle.std.specs.Option.{option_flatten}
use Rattle.wm_decode.specs.Bounds.{Bounds, max_module_bytes, profile}
use Rattle.wm_decode.specs.declared.fault.Limit.TheVariants as limit
use Rattle.wm_decode.specs.declared.fault.FaultKind.TheVariants.{Magic, Version, CountMismatch}
use Rattle.wm_decode.specs.Stop.{Stop, stop, ended, past}
use Rattle.wm_decode.specs.Faults.{section_fault}
use Rattle.wm_decode.specs.Reading.{◌>>=◌}
use Rattle.wm_decode.specs.ReadingVectors.{u32_at, vector_at, sized_at, name_at}
use Rattle.wm_decode.specs.ReadingParts.{Read, func_type_at, imports_at, memories_at, indices_at, no_items_at, global_at, exports_at, code_at, segments_at, agrees}
use Rattle.wm_decode.specs.Module.{items_of, magic, memory_of, version}
use Rattle.wm_decode.specs.declared.module.Front.{Front}
use Rattle.wm_decode.specs.declared.module.Declared.{Declared}
use Rattle.wm_decode.specs.declared.module.Definitions.{Definitions}
use Rattle.wm_decode.specs.declared.module.Bodies.{Bodies}

-- a custom section's name; the rest is skipped
unfoldable pub custom_at : List ℕ → Read (List ℕ)
custom_at bytes = name_at bytes >>= λ name. Ok (name.0, [])

-- after the custom sections, of which at most fuel are read
unfoldable pub customs_at : ℕ → List ℕ → Result (List ℕ) Stop
customs_at fuel [] = Ok []
customs_at zero (b ∷ bytes) = Err ended
customs_at (suc fuel) (b ∷ bytes) = if b == 0 then (sized_at custom_at bytes >>= λ x. customs_at fuel x.1) else Ok (b ∷ bytes)

-- there are fewer of them than bytes
abbrev pub customs_in : List ℕ → Result (List ℕ) Stop
customs_in bytes = customs_at (length bytes) bytes

-- the section of this id and the custom sections after it, if it is here
unfoldable pub section_at : {X : Type 0} → (List ℕ → Read X) → ℕ → List ℕ → Read (Option X)
section_at content_at id [] = Ok (None, [])
section_at content_at id (b ∷ bytes) = if b == id then (sized_at content_at bytes >>= λ x. customs_in x.1 >>= λ rest. Ok (Some x.0, rest)) else Ok (None, b ∷ bytes)

-- the bytes after this byte; with another byte, reading stops this way
unfoldable pub one_at : Stop → ℕ → List ℕ → Result (List ℕ) Stop
one_at other wanted [] = Err ended
one_at other wanted (b ∷ bytes) = if b == wanted then Ok bytes else Err other

-- the bytes after these
abbrev pub behind : Stop → List ℕ → List ℕ → Result (List ℕ) Stop
behind other [] bytes = Ok bytes
behind other (p ∷ ps) bytes = one_at other p bytes >>= behind other ps

unfoldable pub header_at : List ℕ → Result (List ℕ) Stop
header_at bytes = do
  rest ← behind (stop Magic (length bytes)) magic bytes
  behind (stop Version (length rest)) version rest

-- the sections of types, imports and functions
unfoldable pub front_at : Bounds → List ℕ → Read Front
front_at bounds bytes = do
  rest ← header_at bytes
  start ← customs_in rest
  types ← section_at (vector_at func_type_at) 1 start
  imported ← section_at (imports_at bounds) 2 types.1
  indices ← section_at (indices_at bounds) 3 imported.1
  Ok (record { types = items_of types.0; imported = option_flatten imported.0; indices = items_of indices.0 }, indices.1)

-- the sections from the table section to the element section, after those of `front`
unfoldable pub definitions_at : Bounds → Front → List ℕ → Read Declared
definitions_at bounds front bytes = do
  tables ← section_at no_items_at 4 bytes
  defined ← section_at (memories_at bounds (is_some front.imported)) 5 tables.1
  globals ← section_at (vector_at global_at) 6 defined.1
  exports ← section_at exports_at 7 globals.1
  elements ← section_at no_items_at 9 exports.1
  Ok (record { types = front.types; indices = front.indices; memory = memory_of front.imported (option_flatten defined.0); globals = items_of globals.0; exports = items_of exports.0 }, elements.1)

-- the sections up to the element section
unfoldable pub declared_at : Bounds → List ℕ → Read Declared
declared_at bounds bytes = do
  front ← front_at bounds bytes
  definitions_at bounds front.0 front.1

-- the contents of the sections up to the element section
abbrev pub declared_with : Front → Definitions → Declared
declared_with front definitions = record { types = front.types; indices = front.indices; memory = memory_of front.imported definitions.memory; globals = definitions.globals; exports = definitions.exports }

-- the module with these contents of sections, if nothing comes after them and the counts agree
abbrev pub agreed_module : Declared → Option ℕ → Option (List Func) → Option (List DataSegment) → List ℕ → Result Module Stop
agreed_module declared count funcs segments (id ∷ rest) = Err (stop (section_fault id) (length (id ∷ rest)))
agreed_module declared count funcs segments [] =
    if length (items_of funcs) == length declared.indices then (
    if agrees count (length (items_of segments)) then
    Ok (record { types = declared.types; funcs = items_of funcs; memory = declared.memory; globals = declared.globals; exports = declared.exports; «data» = items_of segments })
    else Err (stop CountMismatch 0)) else Err (stop CountMismatch 0)

-- the module with these functions and segments
abbrev pub module_with : Declared → Bodies → Module
module_with declared bodies = record { types = declared.types; funcs = bodies.funcs; memory = declared.memory; globals = declared.globals; exports = declared.exports; «data» = bodies.segments }

-- the sections after the element section, after those of `declared`
unfoldable pub bodies_at : Bounds → Declared → List ℕ → Result Module Stop
bodies_at bounds declared bytes = do
  count ← section_at u32_at 12 bytes
  code ← section_at (code_at bounds declared.types declared.indices) 10 count.1
  segments ← section_at (segments_at count.0) 11 code.1
  agreed_module declared count.0 code.0 segments.0 segments.1

unfoldable pub module_at : Bounds → List ℕ → Result Module Stop
module_at bounds bytes = do
  declared ← declared_at bounds bytes
  bodies_at bounds declared.0 declared.1

-- a module that isn't over the limit of bytes
unfoldable pub whole_at : List ℕ → Result Module Stop
whole_at bytes = if nat_lt max_module_bytes (length bytes) then Err (past limit.ModuleBytes (length bytes - max_module_bytes)) else module_at profile bytes
