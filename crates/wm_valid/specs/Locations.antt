-- The numbers of a function's instructions, and which rule an instruction breaks at its place.
use Rattle.std.specs.Prelude.{ℕ, ◌≡◌, ◌+◌, ◌-◌, ◌^◌, ◌⊎◌, min, List, [], ◌∷◌, Option, Some, None, slice_get, Contains, false}
use Rattle.wm_ast.specs.declared.types.ValType.{ValType}
use Rattle.wm_ast.specs.declared.instr.Else.TheVariants.{Present, Absent}
use Rattle.wm_ast.specs.declared.instr.Instr.{Instr}
use Rattle.wm_ast.specs.declared.instr.Instr.TheVariants.{Block, Loop, If, Br, BrIf, BrTable, Call, LocalGet, LocalSet, LocalTee, GlobalGet, GlobalSet, Access, MemorySize}
use Rattle.wm_ast.specs.Access.{access_width, access_order}
use Rattle.wm_ast.specs.Module.{func_type}
use Rattle.wm_valid.specs.InstrTypes.{Context, Labels, is_aligned}
use Rattle.wm_valid.specs.declared.fault.FaultKind.{FaultKind}
use Rattle.wm_valid.specs.declared.fault.FaultKind.TheVariants.{BadType, Index, Label, Alignment, DataOutOfRange, MemoryAbsent, MemoryLimits}

-- a block, with the type of its label
pub record Part : Type 0 where
  pub label : Option ValType
  pub block : ℕ

-- the blocks whose opcodes follow an instruction's own, in order. After each comes one more opcode: `else` between the
-- two of an `if`, otherwise `end`
abbrev pub parts : Instr → List Part
parts (Block t b) = record { label = t; block = b } ∷ []
parts (Loop t b) = record { label = None; block = b } ∷ []
parts (If t one other Present) = record { label = t; block = one } ∷ record { label = t; block = other } ∷ []
parts (If t one other Absent) = record { label = t; block = one } ∷ []
parts _ = []

-- these blocks and then these instructions have this number of opcodes, including each `else` and `end`
pub data Opcodes (blocks : List (List Instr)) : List Part → List Instr → ℕ → Type 0 where
  none : Opcodes blocks [] [] 0
  instr : {i : Instr} {rest : List Instr} {k : ℕ} → Opcodes blocks (parts i) rest k → Opcodes blocks [] (i ∷ rest) (1 + k)
  part : {p : Part} {ps : List Part} {rest : List Instr} {j k : ℕ} (body : List Instr) → slice_get blocks p.block ≡ Some body → Opcodes blocks [] body j → Opcodes blocks ps rest k
      → Opcodes blocks (p ∷ ps) rest (j + 1 + k)

-- in these blocks and then these instructions, opcode k is the instruction i, with these labels around it
pub data At (blocks : List (List Instr)) : Labels → List Part → List Instr → ℕ → Instr → Labels → Type 0 where
  here : {labels : Labels} {i : Instr} {rest : List Instr} → At blocks labels [] (i ∷ rest) 0 i labels
  behind : {labels under : Labels} {i first : Instr} {rest : List Instr} {k : ℕ} → At blocks labels (parts first) rest k i under → At blocks labels [] (first ∷ rest) (1 + k) i under
  in_part : {labels under : Labels} {i : Instr} {p : Part} {ps : List Part} {rest : List Instr} {k : ℕ} (body : List Instr) → slice_get blocks p.block ≡ Some body
      → At blocks (p.label ∷ labels) [] body k i under → At blocks labels (p ∷ ps) rest k i under
  past_part : {labels under : Labels} {i : Instr} {p : Part} {ps : List Part} {rest : List Instr} {j k : ℕ} (body : List Instr) → slice_get blocks p.block ≡ Some body
      → Opcodes blocks [] body j → At blocks labels ps rest k i under → At blocks labels (p ∷ ps) rest (j + 1 + k) i under

-- in these blocks and then these instructions, opcode k is an `else` or an `end`, of a block or after all of them
pub data IsEnd (blocks : List (List Instr)) : List Part → List Instr → ℕ → Type 0 where
  last : IsEnd blocks [] [] 0
  end_behind : {first : Instr} {rest : List Instr} {k : ℕ} → IsEnd blocks (parts first) rest k → IsEnd blocks [] (first ∷ rest) (1 + k)
  end_in_part : {p : Part} {ps : List Part} {rest : List Instr} {k : ℕ} (body : List Instr) → slice_get blocks p.block ≡ Some body → IsEnd blocks [] body k → IsEnd blocks (p ∷ ps) rest k
  end_past_part : {p : Part} {ps : List Part} {rest : List Instr} {j k : ℕ} (body : List Instr) → slice_get blocks p.block ≡ Some body → Opcodes blocks [] body j → IsEnd blocks ps rest k
      → IsEnd blocks (p ∷ ps) rest (j + 1 + k)

-- an opcode's number as it is reported: 2 to the power 64 minus 1 if it is greater
abbrev pub number_of : ℕ → ℕ
number_of k = min k (2 ^ 64 - 1)

abbrev pub NoSuchIndex : Context → Instr → Type 0
NoSuchIndex C (LocalGet x) = slice_get C.locals x ≡ None
NoSuchIndex C (LocalSet x) = slice_get C.locals x ≡ None
NoSuchIndex C (LocalTee x) = slice_get C.locals x ≡ None
NoSuchIndex C (GlobalGet x) = slice_get C.module.globals x ≡ None
NoSuchIndex C (GlobalSet x) = slice_get C.module.globals x ≡ None
NoSuchIndex C (Call f) = func_type C.module f ≡ None
NoSuchIndex C _ = ⊥

-- one of the labels of a table doesn't exist
abbrev pub NoSuchLabelIn : Labels → List ℕ → ℕ → Type 0
NoSuchLabelIn labels ks l = (k : ℕ) × Contains (l ∷ ks) k × (slice_get labels k ≡ None)

abbrev pub NoSuchLabel : Labels → Instr → Type 0
NoSuchLabel labels (Br l) = slice_get labels l ≡ None
NoSuchLabel labels (BrIf l) = slice_get labels l ≡ None
NoSuchLabel labels (BrTable ks l) = NoSuchLabelIn labels ks l
NoSuchLabel labels _ = ⊥

abbrev pub IsMisaligned : Instr → Type 0
IsMisaligned (Access kind operands) = is_aligned (access_order kind) (access_width kind) operands.alignment ≡ false
IsMisaligned _ = ⊥

abbrev pub NeedsMemory : Instr → Type 0
NeedsMemory (Access kind operands) = Unit {0}
NeedsMemory MemorySize = Unit {0}
NeedsMemory _ = ⊥

-- the instruction keeps all rules but that of types at its place
abbrev pub KeepsOthers : Context → Labels → Instr → Type 0
KeepsOthers C labels i = (NoSuchIndex C i → ⊥) × (NoSuchLabel labels i → ⊥) × (IsMisaligned i → ⊥) × (C.module.memory ≡ None → NeedsMemory i → ⊥)

-- the instruction breaks this rule at its place. BadType means that it breaks no other rule; that typing stops at it is
-- stated for its function
abbrev pub BreaksRule : Context → Labels → Instr → FaultKind → Type 0
BreaksRule C labels i BadType = KeepsOthers C labels i
BreaksRule C labels i Index = NoSuchIndex C i
BreaksRule C labels i Label = NoSuchLabel labels i
BreaksRule C labels i Alignment = IsMisaligned i
BreaksRule C labels i DataOutOfRange = ⊥
BreaksRule C labels i MemoryAbsent = (C.module.memory ≡ None) × NeedsMemory i
BreaksRule C labels i MemoryLimits = ⊥

-- instruction n of these, counted from `first`, breaks this rule
pub record BrokenAt (C : Context) (labels : Labels) (instrs : List Instr) (kind : FaultKind) (first n : ℕ) : Type 0 where
  pub number : ℕ
  pub instr : Instr
  pub under : Labels
  pub at : At C.blocks labels [] instrs number instr under
  pub breaks : BreaksRule C under instr kind
  pub is_number : n ≡ number_of (first + number)

-- opcode n of these, counted from `first`, is an `else` or an `end`
pub record EndsAt (C : Context) (instrs : List Instr) (first n : ℕ) : Type 0 where
  pub number : ℕ
  pub end : IsEnd C.blocks [] instrs number
  pub is_number : n ≡ number_of (first + number)

-- opcode n of these, counted from `first`, is an instruction that breaks this rule, or, if the rule is that of types,
-- an `else` or an `end`
abbrev pub FaultyAt : Context → Labels → List Instr → FaultKind → ℕ → ℕ → Type 0
FaultyAt C labels instrs kind first n = BrokenAt C labels instrs kind first n ⊎ ((kind ≡ BadType) × EndsAt C instrs first n)
