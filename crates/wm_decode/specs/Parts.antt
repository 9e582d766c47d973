-- The bytes of types, and of the contents of sections (Core 1.0, sections 5.3 and 5.5; threads proposal, "Limits").
use Rattle.std.specs.Prelude.{◌≡◌, ℕ, zero, suc, ◌-◌, ◌^◌, List, [], ◌∷◌, ◌++◌, Some, None, option_to_list, length}
use Rattle.wm_ast.specs.Exports.{export_at}
use Rattle.wm_ast.specs.declared.types.ValType.{ValType}
use Rattle.wm_ast.specs.declared.types.FuncType.{FuncType}
use Rattle.wm_ast.specs.declared.types.Limits.{Limits}
use Rattle.wm_ast.specs.declared.types.Mutability.{Mutability}
use Rattle.wm_ast.specs.declared.types.Mutability.TheVariants.{Constant, Variable}
use Rattle.wm_ast.specs.declared.instr.Instr.{Instr}
use Rattle.wm_ast.specs.declared.exports.Export.{Export}
use Rattle.wm_ast.specs.declared.exports.ExportKind.{ExportKind}
use Rattle.wm_ast.specs.declared.exports.ExportKind.TheVariants as kind
use Rattle.wm_ast.specs.declared.module.ConstExpr.{ConstExpr}
use Rattle.wm_ast.specs.declared.module.ConstExpr.TheVariants.{I32, I64}
use Rattle.wm_ast.specs.declared.module.Func.{Func}
use Rattle.wm_ast.specs.declared.module.Global.{Global}
use Rattle.wm_ast.specs.declared.module.ImportName.{ImportName}
use Rattle.wm_ast.specs.declared.module.Memory.{Memory}
use Rattle.wm_ast.specs.declared.module.DataSegment.{DataSegment}
use Rattle.wm_decode.specs.Numbers.{U32, Signed}
use Rattle.wm_decode.specs.Vectors.{Vector, ByteVector, Name, Sized}
use Rattle.wm_decode.specs.Instructions.{value_type, Spells}

-- The bytes spell a value type.
abbrev pub ValueType : List ℕ → ValType → Type 0
ValueType text ty = text ≡ value_type ty ∷ []

-- The bytes spell a function's type: its parameters and at most one result.
pub record FunctionType (text : List ℕ) (t : FuncType) : Type 0 where
  pub first : List ℕ
  pub second : List ℕ
  pub parts : text ≡ 0x60 ∷ first ++ second
  pub params : Vector ValueType first t.params
  pub results : Vector ValueType second (option_to_list t.result)

-- The bytes spell the limits of a shared memory.
pub record SharedLimits (text : List ℕ) (l : Limits) : Type 0 where
  pub first : List ℕ
  pub second : List ℕ
  pub parts : text ≡ 0x03 ∷ first ++ second
  pub least : U32 first l.minimum
  pub most : U32 second l.maximum

-- The bytes spell an import, which is a memory.
pub record MemoryImport (text : List ℕ) (m : Memory) : Type 0 where
  pub first : List ℕ
  pub second : List ℕ
  pub third : List ℕ
  pub named : ImportName
  pub parts : text ≡ first ++ (second ++ 0x02 ∷ third)
  pub from : Name first named.module
  pub name : Name second named.name
  pub limits : SharedLimits third m.limits
  pub import_is : m.import ≡ Some named

-- The bytes spell an initial value: one constant and an end.
pub data Initial : List ℕ → ConstExpr → Type 0 where
  i32 : {text : List ℕ} {n : ℕ} → Signed (2 ^ 32 - 1) text n → Initial (0x41 ∷ text ++ 0x0B ∷ []) (I32 n)
  i64 : {text : List ℕ} {n : ℕ} → Signed (2 ^ 64 - 1) text n → Initial (0x42 ∷ text ++ 0x0B ∷ []) (I64 n)

-- the byte of a mutability
abbrev pub mutability : Mutability → ℕ
mutability Constant = 0x00
mutability Variable = 0x01

-- The bytes spell a global.
pub record GlobalEntry (text : List ℕ) (g : Global) : Type 0 where
  pub init : List ℕ
  pub parts : text ≡ value_type g.ty ∷ mutability g.mutability ∷ init
  pub spelled : Initial init g.init

-- the byte of what an export names
abbrev pub export_kind : ExportKind → ℕ
export_kind kind.Func = 0x00
export_kind kind.Memory = 0x02
export_kind kind.Global = 0x03

-- The bytes spell an export: its name, what it names, and its index.
pub record ExportEntry (text : List ℕ) (e : List ℕ × Export) : Type 0 where
  pub first : List ℕ
  pub second : List ℕ
  pub parts : text ≡ first ++ export_kind e.1.kind ∷ second
  pub name : Name first e.0
  pub index : U32 second e.1.index

-- The bytes spell exports, each with a name that differs from all earlier ones.
pub data Exports : List (List ℕ × Export) → List ℕ → List (List ℕ × Export) → Type 0 where
  no_export : {earlier : List (List ℕ × Export)} → Exports earlier [] []
  export : {earlier es : List (List ℕ × Export)} {e : List ℕ × Export} {text rest : List ℕ} →
      ExportEntry text e → export_at e.0 earlier ≡ None → Exports (earlier ++ e ∷ []) rest es → Exports earlier (text ++ rest) (e ∷ es)

-- The bytes spell a vector of exports.
pub record ExportVector (text : List ℕ) (es : List (List ℕ × Export)) : Type 0 where
  pub count : List ℕ
  pub items : List ℕ
  pub parts : text ≡ count ++ items
  pub counted : U32 count (length es)
  pub each : Exports [] items es

-- this number of items of one type
abbrev pub locals_of : ℕ → ValType → List ValType
locals_of zero ty = []
locals_of (suc n) ty = ty ∷ locals_of n ty

-- The bytes spell locals: for each entry, how many there are and their type.
pub data Locals : List ℕ → ℕ → List ValType → Type 0 where
  no_locals : Locals [] 0 []
  locals : {count text : List ℕ} {entries n : ℕ} {tys : List ValType} → (ty : ValType) →
      U32 count n → Locals text entries tys → Locals (count ++ value_type ty ∷ text) (suc entries) (locals_of n ty ++ tys)

-- The bytes spell a function of the type of this index: its locals, its instructions, and an end. Its blocks nest at most depth_left deep.
pub record FunctionBody (depth_left index : ℕ) (text : List ℕ) (f : Func) : Type 0 where
  pub entries : ℕ
  pub first : List ℕ
  pub second : List ℕ
  pub third : List ℕ
  pub body : List Instr
  pub nested : List (List Instr)
  pub parts : text ≡ first ++ (second ++ (third ++ 0x0B ∷ []))
  pub counted : U32 first entries
  pub declared : Locals second entries f.locals
  pub spelled : Spells depth_left 1 third body nested
  pub blocks : f.blocks ≡ body ∷ nested
  pub typed : f.type_index ≡ index

-- The bytes spell functions of the types of these indices, each with its size.
pub data Functions (depth_left : ℕ) : List ℕ → List ℕ → List Func → Type 0 where
  no_function : Functions depth_left [] [] []
  function : {index : ℕ} {indices text rest : List ℕ} {f : Func} {fs : List Func} →
      Sized (FunctionBody depth_left index) text f → Functions depth_left indices rest fs → Functions depth_left (index ∷ indices) (text ++ rest) (f ∷ fs)

-- The bytes spell a vector of functions of the types of these indices.
pub record FunctionVector (depth_left : ℕ) (indices : List ℕ) (text : List ℕ) (fs : List Func) : Type 0 where
  pub count : List ℕ
  pub items : List ℕ
  pub parts : text ≡ count ++ items
  pub counted : U32 count (length fs)
  pub each : Functions depth_left indices items fs

-- The bytes spell a data segment: its offset and its bytes.
pub record Segment (text : List ℕ) (d : DataSegment) : Type 0 where
  pub first : List ℕ
  pub second : List ℕ
  pub parts : text ≡ 0x00 ∷ first ++ second
  pub offset : Initial first d.offset
  pub bytes : ByteVector second d.bytes
