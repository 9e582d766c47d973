-- Sections and modules (Core 1.0, sections 5.5.2 to 5.5.15).
use Rattle.std.specs.Prelude.{◌≡◌, ℕ, ◌+◌, ◌≤◌, ◌<◌, List, [], ◌∷◌, ◌++◌, length, Option, Some, None, option_to_list, is_some, slice_get, true}
use Rattle.std.specs.Option.{option_flatten}
use Rattle.wm_ast.specs.declared.types.FuncType.{FuncType}
use Rattle.wm_ast.specs.declared.types.Limits.{Limits}
use Rattle.wm_ast.specs.declared.exports.Export.{Export}
use Rattle.wm_ast.specs.declared.module.Func.{Func}
use Rattle.wm_ast.specs.declared.module.Global.{Global}
use Rattle.wm_ast.specs.declared.module.Memory.{Memory}
use Rattle.wm_ast.specs.declared.module.DataSegment.{DataSegment}
use Rattle.wm_ast.specs.declared.module.Module.{Module}
use Rattle.wm_decode.specs.declared.fault.Limit.{Limit}
use Rattle.wm_decode.specs.declared.fault.Limit.TheVariants as limit
use Rattle.wm_decode.specs.Bounds.{Bounds, max_module_bytes, profile}
use Rattle.wm_decode.specs.Numbers.{U32}
use Rattle.wm_decode.specs.Vectors.{Vector, Name, Sized}
use Rattle.wm_decode.specs.Parts.{FunctionType, SharedLimits, MemoryImport, GlobalEntry, ExportVector, FunctionVector, Segment}

-- The bytes spell a name, and anything after it.
pub record Custom (text : List ℕ) (name : List ℕ) : Type 0 where
  pub first : List ℕ
  pub rest : List ℕ
  pub parts : text ≡ first ++ rest
  pub named : Name first name

-- The bytes spell custom sections.
pub data Customs : List ℕ → Type 0 where
  no_custom : Customs []
  custom : {text rest name : List ℕ} → Sized Custom text name → Customs rest → Customs (0x00 ∷ text ++ rest)

-- The bytes spell at most one section of this id, and custom sections after it.
pub data Section {X : Type 0} (Content : List ℕ → X → Type 0) (id : ℕ) : List ℕ → Option X → Type 0 where
  absent : Section Content id [] None
  present : {text customs : List ℕ} {x : X} → Sized Content text x → Customs customs → Section Content id (id ∷ text ++ customs) (Some x)

-- The bytes spell a vector of at most one item.
abbrev pub AtMostOne : {X : Type 0} → (List ℕ → X → Type 0) → List ℕ → Option X → Type 0
AtMostOne Item text x = Vector Item text (option_to_list x)

-- The bytes spell a vector of no items.
abbrev pub NoItems : List ℕ → ℕ → Type 0
NoItems text count = U32 text count × (count ≡ 0)

abbrev pub magic : List ℕ
magic = 0x00 ∷ 0x61 ∷ 0x73 ∷ 0x6D ∷ []

abbrev pub version : List ℕ
version = 0x01 ∷ 0x00 ∷ 0x00 ∷ 0x00 ∷ []

abbrev pub header : List ℕ
header = magic ++ version

-- the items of a section; none if it is absent
abbrev pub items_of : {X : Type 0} → Option (List X) → List X
items_of None = []
items_of (Some xs) = xs

-- the only memory, imported or not
abbrev pub memory_of : Option Memory → Option Limits → Option Memory
memory_of (Some m) defined = Some m
memory_of None None = None
memory_of None (Some l) = Some (record { limits = l; import = None })

-- a declared count, if there is one
abbrev pub Agrees : Option ℕ → ℕ → Type 0
Agrees None count = Unit {0}
Agrees (Some n) count = count ≡ n

-- how many parameters the type of this index has; 0 if there is no such type
abbrev pub params_at : Option FuncType → ℕ
params_at None = 0
params_at (Some t) = length t.params

abbrev pub params_of : List FuncType → ℕ → ℕ
params_of types index = params_at (slice_get types index)

-- the module of these sections
abbrev pub module_of : Option (List FuncType) → Option (Option Memory) → Option (Option Limits) → Option (List Global) → Option (List (List ℕ × Export)) → Option (List Func) → Option (List DataSegment) → Module
module_of types imported defined globals exports funcs segments = record {
  types = items_of types;
  funcs = items_of funcs;
  memory = memory_of (option_flatten imported) (option_flatten defined);
  globals = items_of globals;
  exports = items_of exports;
  «data» = items_of segments;
}

-- each function's parameters and locals are within the bounds
abbrev pub LocalsWithin : Bounds → List FuncType → List Func → Type 0
LocalsWithin bounds types [] = Unit {0}
LocalsWithin bounds types (f ∷ fs) = (params_of types f.type_index + length f.locals ≤ bounds.locals) × LocalsWithin bounds types fs

-- The bytes spell a module: the header, custom sections, and at most one section of each kind, in this order. The blocks of a function nest at most depth_left deep.
pub record SpellsModule (depth_left : ℕ) (text : List ℕ) (m : Module) : Type 0 where
  pub custom_text : List ℕ
  pub type_text : List ℕ
  pub import_text : List ℕ
  pub function_text : List ℕ
  pub table_text : List ℕ
  pub memory_text : List ℕ
  pub global_text : List ℕ
  pub export_text : List ℕ
  pub element_text : List ℕ
  pub count_text : List ℕ
  pub code_text : List ℕ
  pub data_text : List ℕ
  pub types : Option (List FuncType)
  pub imported : Option (Option Memory)
  pub indices : Option (List ℕ)
  pub tables : Option ℕ
  pub defined : Option (Option Limits)
  pub globals : Option (List Global)
  pub exports : Option (List (List ℕ × Export))
  pub elements : Option ℕ
  pub count : Option ℕ
  pub funcs : Option (List Func)
  pub segments : Option (List DataSegment)
  pub parts : text ≡ header ++ (custom_text ++ (type_text ++ (import_text ++ (function_text ++ (table_text ++ (memory_text ++ (global_text ++ (export_text ++ (element_text ++ (count_text ++ (code_text ++ data_text)))))))))))
  pub customs : Customs custom_text
  pub type_section : Section (Vector FunctionType) 1 type_text types
  pub import_section : Section (AtMostOne MemoryImport) 2 import_text imported
  pub function_section : Section (Vector U32) 3 function_text indices
  pub table_section : Section NoItems 4 table_text tables
  pub memory_section : Section (AtMostOne SharedLimits) 5 memory_text defined
  pub global_section : Section (Vector GlobalEntry) 6 global_text globals
  pub export_section : Section ExportVector 7 export_text exports
  pub element_section : Section NoItems 9 element_text elements
  pub count_section : Section U32 12 count_text count
  pub code_section : Section (FunctionVector depth_left (items_of indices)) 10 code_text funcs
  pub data_section : Section (Vector Segment) 11 data_text segments
  -- there is at most one memory
  pub one_memory : is_some (option_flatten imported) ≡ true → option_flatten defined ≡ None
  -- the counts agree
  pub functions_agree : length (items_of funcs) ≡ length (items_of indices)
  pub segments_agree : Agrees count (length (items_of segments))
  pub module_is : m ≡ module_of types imported defined globals exports funcs segments

-- A memory's initial pages, the functions, and each function's parameters and locals are within the bounds.
pub record Within (bounds : Bounds) (m : Module) : Type 0 where
  pub pages : (x : Memory) → m.memory ≡ Some x → x.limits.minimum ≤ bounds.pages
  pub functions : length m.funcs ≤ bounds.functions
  pub locals : LocalsWithin bounds m.types m.funcs

-- The bytes spell the module.
abbrev pub spells : List ℕ → Module → Type 0
spells bytes m = (depth_left : ℕ) × SpellsModule depth_left bytes m

-- The bytes spell the module, and both are within the limits of this project.
pub record SpellsWithin (bytes : List ℕ) (m : Module) : Type 0 where
  pub spelled : SpellsModule profile.nesting bytes m
  pub within : Within profile m
  pub short : length bytes ≤ max_module_bytes

-- The bytes or the module they spell are over this limit.
abbrev pub IsPast : Limit → List ℕ → Module → Type 0
IsPast limit.ModuleBytes bytes m = max_module_bytes < length bytes
IsPast limit.Pages bytes m = (x : Memory) × (m.memory ≡ Some x) × (profile.pages < x.limits.minimum)
IsPast limit.Functions bytes m = profile.functions < length m.funcs
IsPast limit.Locals bytes m = LocalsWithin profile m.types m.funcs → ⊥
IsPast limit.Nesting bytes m = SpellsModule profile.nesting bytes m → ⊥
