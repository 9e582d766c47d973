-- The types of instructions that have no blocks (Core 1.0, section 3.3, and the threads proposal). Lists of operand types are read from the top.
use Rattle.std.specs.Prelude.{ℕ, List, [], ◌∷◌, reverse, Bool, true, false, Option, Some, None, slice_get, option_and_then, nat_le, nat_eq, is_some, if◌then◌else◌}
use Rattle.wm_access.specs.declared.AccessWidth.{AccessWidth}
use Rattle.wm_access.specs.declared.AccessWidth.TheVariants.{One, Two, Four, Eight}
use Rattle.wm_access.specs.declared.MemoryOrder.{MemoryOrder}
use Rattle.wm_access.specs.declared.MemoryOrder.TheVariants.{Unordered, SeqCst}
use Rattle.wm_num.specs.declared.operator.Width.{Width}
use Rattle.wm_num.specs.declared.operator.Width.TheVariants.{W32, W64}
use Rattle.wm_num.specs.Conversion.{source_of, target_of}
use Rattle.wm_ast.specs.declared.module.Module.{Module}
use Rattle.wm_ast.specs.declared.types.ValType.{ValType}
use Rattle.wm_ast.specs.declared.types.ValType.TheVariants.{I32, I64}
use Rattle.wm_ast.specs.declared.types.Mutability.{Mutability}
use Rattle.wm_ast.specs.declared.types.Mutability.TheVariants.{Constant, Variable}
use Rattle.wm_ast.specs.declared.access.AccessKind.{AccessKind}
use Rattle.wm_ast.specs.declared.access.AccessKind.TheVariants.{Read, ReadSigned, Write, AtomicRead, AtomicWrite, Rmw, CmpXchg}
use Rattle.wm_ast.specs.Access.{access_width, access_operand, access_order}
use Rattle.wm_ast.specs.Module.{func_type}
use Rattle.wm_ast.specs.declared.instr.Instr.{Instr}
use Rattle.wm_ast.specs.declared.instr.Instr.TheVariants.{Unreachable, Nop, Block, Loop, If, Br, BrIf, BrTable, Return, Call, Drop, Select, LocalGet, LocalSet, LocalTee, GlobalGet, GlobalSet, Access, MemorySize, I32Const, I64Const, Eqz, Compare, Unary, Binary, Convert}

infixl 10 ◌>>=◌
abbrev pub ◌>>=◌ : {A B : Type 0} → Option A → (A → Option B) → Option B
o >>= f = option_and_then f o

-- the context in which the instructions of a function are typed, without the labels
pub record Context : Type 0 where
  pub «module» : Module
  pub locals : List ValType
  pub result : Option ValType
  pub blocks : List (List Instr)

-- the types of labels, the innermost first
abbrev pub Labels : Type 0
Labels = List (Option ValType)

pub data InstrType : Type 0 where
  -- takes these operands and gives those
  maps : List ValType → List ValType → InstrType
  -- t to nothing, and t t i32 to t, for any t
  drops : InstrType
  selects : InstrType
  -- takes these operands, and then any list is possible
  stack_polymorphic : List ValType → InstrType

abbrev pub listed : Option ValType → List ValType
listed None = []
listed (Some t) = t ∷ []

abbrev pub same : Option ValType → Option ValType → Bool
same None None = true
same None (Some t) = false
same (Some t) None = false
same (Some I32) (Some I32) = true
same (Some I32) (Some I64) = false
same (Some I64) (Some I32) = false
same (Some I64) (Some I64) = true

-- t, if each of these labels has the type t
abbrev pub all_same : Labels → Option ValType → List ℕ → Option (Option ValType)
all_same labels t [] = Some t
all_same labels t (k ∷ ks) = slice_get labels k >>= λ u. if same u t then all_same labels t ks else None

-- the type of all these labels
abbrev pub table_type : Labels → List ℕ → ℕ → Option (Option ValType)
table_type labels ks l = slice_get labels l >>= λ t. all_same labels t ks

abbrev pub is_variable : Mutability → Bool
is_variable Constant = false
is_variable Variable = true

-- the type whose values have this width
abbrev pub type_of : Width → ValType
type_of W32 = I32
type_of W64 = I64

-- the width as an exponent of 2
abbrev pub exponent_of : AccessWidth → ℕ
exponent_of One = 0
exponent_of Two = 1
exponent_of Four = 2
exponent_of Eight = 3

-- the alignment of a plain access may be less than its width, that of an atomic access may not
abbrev pub is_aligned : MemoryOrder → AccessWidth → ℕ → Bool
is_aligned Unordered width exponent = nat_le exponent (exponent_of width)
is_aligned SeqCst width exponent = nat_eq exponent (exponent_of width)

-- an access takes its address, below one or two values, and may give a value
abbrev pub access_type : AccessKind → InstrType
access_type (Read s) = maps (I32 ∷ []) (access_operand (Read s) ∷ [])
access_type (ReadSigned n) = maps (I32 ∷ []) (access_operand (ReadSigned n) ∷ [])
access_type (Write s) = maps (access_operand (Write s) ∷ I32 ∷ []) []
access_type (AtomicRead s) = maps (I32 ∷ []) (access_operand (AtomicRead s) ∷ [])
access_type (AtomicWrite s) = maps (access_operand (AtomicWrite s) ∷ I32 ∷ []) []
access_type (Rmw op s) = maps (access_operand (Rmw op s) ∷ I32 ∷ []) (access_operand (Rmw op s) ∷ [])
access_type (CmpXchg t) = maps (access_operand (CmpXchg t) ∷ access_operand (CmpXchg t) ∷ I32 ∷ []) (access_operand (CmpXchg t) ∷ [])

-- None if the instruction has no type here, or has blocks
abbrev pub instr_type : Context → Labels → Instr → Option InstrType
instr_type C labels Unreachable = Some (stack_polymorphic [])
instr_type C labels Nop = Some (maps [] [])
instr_type C labels (Block t b) = None
instr_type C labels (Loop t b) = None
instr_type C labels (If t one other part) = None
instr_type C labels (Br l) = slice_get labels l >>= λ t. Some (stack_polymorphic (listed t))
instr_type C labels (BrIf l) = slice_get labels l >>= λ t. Some (maps (I32 ∷ listed t) (listed t))
instr_type C labels (BrTable ks l) = table_type labels ks l >>= λ t. Some (stack_polymorphic (I32 ∷ listed t))
instr_type C labels Return = Some (stack_polymorphic (listed C.result))
instr_type C labels (Call f) = func_type C.module f >>= λ ty. Some (maps (reverse ty.params) (listed ty.result))
instr_type C labels Drop = Some drops
instr_type C labels Select = Some selects
instr_type C labels (LocalGet x) = slice_get C.locals x >>= λ t. Some (maps [] (t ∷ []))
instr_type C labels (LocalSet x) = slice_get C.locals x >>= λ t. Some (maps (t ∷ []) [])
instr_type C labels (LocalTee x) = slice_get C.locals x >>= λ t. Some (maps (t ∷ []) (t ∷ []))
instr_type C labels (GlobalGet x) = slice_get C.module.globals x >>= λ g. Some (maps [] (g.ty ∷ []))
instr_type C labels (GlobalSet x) = slice_get C.module.globals x >>= λ g. if is_variable g.mutability then Some (maps (g.ty ∷ []) []) else None
instr_type C labels (Access kind operands) =
    if is_some C.module.memory then (if is_aligned (access_order kind) (access_width kind) operands.alignment then Some (access_type kind) else None) else None
instr_type C labels MemorySize = if is_some C.module.memory then Some (maps [] (I32 ∷ [])) else None
instr_type C labels (I32Const n) = Some (maps [] (I32 ∷ []))
instr_type C labels (I64Const n) = Some (maps [] (I64 ∷ []))
instr_type C labels (Eqz w) = Some (maps (type_of w ∷ []) (I32 ∷ []))
instr_type C labels (Compare op w) = Some (maps (type_of w ∷ type_of w ∷ []) (I32 ∷ []))
instr_type C labels (Unary op w) = Some (maps (type_of w ∷ []) (type_of w ∷ []))
instr_type C labels (Binary op w) = Some (maps (type_of w ∷ type_of w ∷ []) (type_of w ∷ []))
instr_type C labels (Convert op) = Some (maps (type_of (source_of op) ∷ []) (type_of (target_of op) ∷ []))
