-- The meaning of a refusal.
use Rattle.std.specs.Prelude.{ℕ, ◌≡◌, ◌+◌, ◌<◌, ◌⊎◌, List, [], ◌∷◌, Some, None, Result, Ok, Err, length, slice_get, All}
use Rattle.wm_ast.specs.declared.types.FuncType.{FuncType}
use Rattle.wm_ast.specs.declared.types.ValType.TheVariants as value
use Rattle.wm_ast.specs.declared.instr.Instr.{Instr}
use Rattle.wm_ast.specs.declared.module.Module.{Module}
use Rattle.wm_ast.specs.declared.module.Func.{Func}
use Rattle.wm_ast.specs.declared.module.DataSegment.{DataSegment}
use Rattle.wm_valid.specs.Typing.{TypedFunc, context}
use Rattle.wm_ast.specs.Module.{memory_size}
use Rattle.wm_valid.specs.Memory.{start}
use Rattle.wm_valid.specs.Valid.{GoodLimits, GoodGlobal, GoodExport, GoodData, HasMemory, IsConstant}
use Rattle.wm_valid.specs.Locations.{FaultyAt}
use Rattle.wm_valid.specs.Untyped.{TypingStopsAt}
use Rattle.wm_valid.specs.declared.fault.FaultKind.{FaultKind}
use Rattle.wm_valid.specs.declared.fault.FaultKind.TheVariants.{BadType, Index, Label, Alignment, DataOutOfRange, MemoryAbsent, MemoryLimits}
use Rattle.wm_valid.specs.declared.fault.Location.{Location}
use Rattle.wm_valid.specs.declared.fault.Location.TheVariants as place
use Rattle.wm_valid.specs.declared.fault.ValidFault.{ValidFault}
use Rattle.wm_valid.specs.declared.fault.ValidFault.TheVariants.{At, OutOfMemory}
use Rattle.wm_valid.specs.declared.fault.InstrFault.{InstrFault}
use Rattle.wm_valid.specs.declared.fault.InstrFault.TheVariants as refusal

-- one of these items has this property
abbrev pub SomeOf : {X : Type 0} → List X → (X → Type 0) → Type 0
SomeOf {X} xs P = (k : ℕ) × (x : X) × (slice_get xs k ≡ Some x) × P x

-- item k, if there is one, has this property
abbrev pub IsGoodAt : {X : Type 0} → (X → Type 0) → List X → ℕ → Type 0
IsGoodAt {X} P xs k = (x : X) → slice_get xs k ≡ Some x → P x

-- the function's type doesn't exist
abbrev pub HasNoType : Module → Func → Type 0
HasNoType m f = slice_get m.types f.type_index ≡ None

abbrev pub HasType : Module → Func → Type 0
HasType m f = (type : FuncType) × (slice_get m.types f.type_index ≡ Some type)

-- everything but the functions' instructions is as required
pub record GoodSections (m : Module) : Type 0 where
  pub limits : GoodLimits m.memory
  pub types : All (HasType m) m.funcs
  pub globals : All GoodGlobal m.globals
  pub exports : All (GoodExport m) m.exports
  pub segments : All (GoodData m) m.data

-- opcode n of the function is an instruction that breaks this rule and, if the rule is that of types, no other; or, if
-- the rule is that of types, an `else` or an `end`. Then typing stops at opcode n
pub record BreaksIn (m : Module) (f : Func) (kind : FaultKind) (n : ℕ) : Type 0 where
  pub type : FuncType
  pub is_type : slice_get m.types f.type_index ≡ Some type
  pub body : List Instr
  pub is_body : slice_get f.blocks 0 ≡ Some body
  pub faulty : FaultyAt (context m f type) (type.result ∷ []) body kind 0 n
  -- the opcodes before n have a typing, but not together with it
  pub stops : kind ≡ BadType → TypingStopsAt (context m f type) 0 (type.result ∷ []) type.result body 0 n

-- the data segment, at an i32, ends past the initial memory
pub record IsOutOfRange (m : Module) (d : DataSegment) : Type 0 where
  pub memory : HasMemory m.memory
  pub offset : IsConstant value.I32 d.offset
  pub past : memory_size m < start d.offset + length d.bytes

-- the module breaks this rule outside its functions' instructions
abbrev pub BreaksModule : Module → FaultKind → Type 0
BreaksModule m BadType = SomeOf m.globals (λ g. GoodGlobal g → ⊥) ⊎ SomeOf m.data (λ d. IsConstant value.I32 d.offset → ⊥)
BreaksModule m Index = SomeOf m.funcs (HasNoType m) ⊎ SomeOf m.exports (λ e. GoodExport m e → ⊥)
BreaksModule m Label = ⊥
BreaksModule m Alignment = ⊥
BreaksModule m DataOutOfRange = SomeOf m.data (IsOutOfRange m)
BreaksModule m MemoryAbsent = (m.memory ≡ None) × SomeOf m.data (λ d. Unit {0})
BreaksModule m MemoryLimits = GoodLimits m.memory → ⊥

-- a data segment breaks this rule
abbrev pub BreaksData : Module → DataSegment → FaultKind → Type 0
BreaksData m d BadType = IsConstant value.I32 d.offset → ⊥
BreaksData m d DataOutOfRange = IsOutOfRange m d
BreaksData m d MemoryAbsent = m.memory ≡ None
BreaksData m d _ = ⊥

-- the function isn't typed, and its opcode n is at fault; a function without a body breaks the rule of types, at number 0
pub record BreaksFunc (m : Module) (f : Func) (kind : FaultKind) (n : ℕ) : Type 0 where
  pub untyped : TypedFunc m f → ⊥
  pub place : BreaksIn m f kind n ⊎ ((kind ≡ BadType) × (slice_get f.blocks 0 ≡ None) × (n ≡ 0))

-- the module breaks the rule at the place
abbrev pub BreaksAt : Module → FaultKind → Location → Type 0
BreaksAt m kind place.Module = BreaksModule m kind
BreaksAt m kind (place.Instr func n) = (f : Func) × (slice_get m.funcs func ≡ Some f) × BreaksFunc m f kind n

-- an allocation failed, or the fault is right
abbrev pub Breaks : Module → ValidFault → Type 0
Breaks m OutOfMemory = Unit {0}
Breaks m (At kind place) = BreaksAt m kind place

-- the fault of a function at its instruction n
abbrev pub placed : InstrFault → ℕ → ℕ → ValidFault
placed refusal.OutOfMemory func n = OutOfMemory
placed (refusal.Breaks kind) func n = At kind (place.Instr func n)

-- an allocation failed, or the function, the one after `number` others, breaks the rule at the place
abbrev pub RefusesFunc : Module → Func → ℕ → ValidFault → Type 0
RefusesFunc m f number OutOfMemory = Unit {0}
RefusesFunc m f number (At kind place.Module) = ⊥
RefusesFunc m f number (At kind (place.Instr func n)) = (func ≡ number) × BreaksFunc m f kind n

-- the function is typed, or the fault is right for it
abbrev pub JudgesFunc : {X : Type 0} → Result X ValidFault → Module → Func → ℕ → Type 0
JudgesFunc (Ok x) m f number = TypedFunc m f
JudgesFunc (Err e) m f number = RefusesFunc m f number e

-- the same, seen before the place is known
abbrev pub JudgesBody : {X : Type 0} → Result X InstrFault → Module → Func → ℕ → Type 0
JudgesBody (Ok x) m f n = TypedFunc m f
JudgesBody (Err refusal.OutOfMemory) m f n = Unit {0}
JudgesBody (Err (refusal.Breaks kind)) m f n = BreaksFunc m f kind n
