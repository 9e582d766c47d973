-- The answers of a function, in terms of what it had to find.
use Rattle.std.specs.Prelude.{◌≡◌, ◌<◌, ◌⊎◌, ℕ, ◌+◌, List, [], ◌∷◌, ◌++◌, Option, Some, None, Result, Ok, Err, slice_get}
use Rattle.wm_ast.specs.declared.types.ValType.{ValType}
use Rattle.wm_ast.specs.declared.instr.Instr.{Instr}
use Rattle.wm_ast.specs.declared.instr.Else.{Else}
use Rattle.wm_ast.specs.declared.instr.Else.TheVariants.{Present, Absent}
use Rattle.wm_valid.specs.InstrTypes.{Context, Labels}
use Rattle.wm_valid.specs.Typing.{Typed, AbsentElse}
use Rattle.wm_valid.specs.Stacks.{Stack, Matches}
use Rattle.wm_valid.specs.Locations.{Opcodes, BreaksRule, FaultyAt, NoSuchLabelIn, number_of}
use Rattle.wm_valid.specs.Untyped.{IsBehind, TypingStopsAt}
use Rattle.wm_valid.specs.declared.fault.FaultKind.{FaultKind}
use Rattle.wm_valid.specs.declared.fault.FaultKind.TheVariants.{BadType, Index, Label}
use Rattle.wm_valid.specs.declared.fault.InstrFault.{InstrFault}
use Rattle.wm_valid.specs.declared.fault.InstrFault.TheVariants.{Breaks, OutOfMemory}

-- the refusal is an allocation failure, or this holds
abbrev pub Unless : InstrFault → Type 0 → Type 0
Unless OutOfMemory P = Unit {0}
Unless (Breaks kind) P = P

abbrev pub Implements : {X Y : Type 0} → (X → Y) → Result X FaultKind → Option Y → Type 0
Implements view (Ok x) read = read ≡ Some (view x)
Implements view (Err e) read = read ≡ None

-- the option is what is found, by this view
abbrev pub Finds : {X Y : Type 0} → (X → Y) → Option X → Option Y → Type 0
Finds view (Some x) read = read ≡ Some (view x)
Finds view None read = read ≡ None

-- it decides P
abbrev pub Decides : {X : Type 0} → Result X InstrFault → Type 0 → Type 0
Decides (Ok x) P = P
Decides (Err e) P = Unless e (P → ⊥)

-- the contents of the stack afterwards
abbrev pub LeavesStack : {X : Type 0} → Result X InstrFault → Option Stack → Stack → Type 0
LeavesStack (Ok x) after new = after ≡ Some new
LeavesStack (Err e) after new = Unless e (after ≡ None)

-- after the instruction, the new stack represents the lists that the typing allows
pub record MapsStack (C : Context) (n : ℕ) (labels : Labels) (i : Instr) (old new : Stack) : Type 0 where
  pub back : (us vs : List ValType) (rest : List Instr) → Matches new us → Typed C n labels rest us vs → (ts : List ValType) × Matches old ts × Typed C n labels (i ∷ rest) ts vs
  pub forth : (ts vs : List ValType) (rest : List Instr) → Matches old ts → Typed C n labels (i ∷ rest) ts vs → (us : List ValType) × Matches new us × Typed C n labels rest us vs

-- none of the lists that the stack represents is allowed before the instruction
abbrev pub Rejects : Context → ℕ → Labels → Instr → Stack → Type 0
Rejects C n labels i old = (ts vs : List ValType) (rest : List Instr) → Matches old ts → Typed C n labels (i ∷ rest) ts vs → ⊥

abbrev pub Checked : {X : Type 0} → Result X InstrFault → Context → ℕ → Labels → Instr → Stack → Stack → Type 0
Checked (Ok x) C n labels i old new = MapsStack C n labels i old new
Checked (Err e) C n labels i old new = Unless e (Rejects C n labels i old)

-- the refusal is an allocation failure, or the instruction breaks the rule
abbrev pub BrokenBy : Context → Labels → Instr → InstrFault → Type 0
BrokenBy C labels i OutOfMemory = Unit {0}
BrokenBy C labels i (Breaks kind) = BreaksRule C labels i kind

-- no rule but that of types is broken
abbrev pub IsUntyped : InstrFault → Type 0
IsUntyped OutOfMemory = Unit {0}
IsUntyped (Breaks kind) = kind ≡ BadType

-- label k exists
abbrev pub IsLabel : Labels → ℕ → Type 0
IsLabel labels k = slice_get labels k ≡ None → ⊥

-- some label of a table doesn't exist, or all exist and don't have the same type
abbrev pub TableFault : Labels → List ℕ → ℕ → FaultKind → Type 0
TableFault labels ks l BadType = NoSuchLabelIn labels ks l → ⊥
TableFault labels ks l Label = NoSuchLabelIn labels ks l
TableFault labels ks l _ = ⊥

-- the instructions have been counted
pub record Counted (blocks : List (List Instr)) (instrs : List Instr) (first next : ℕ) : Type 0 where
  pub opcodes : ℕ
  pub are_opcodes : Opcodes blocks [] instrs opcodes
  pub is_next : next ≡ number_of (first + opcodes)

-- the refusal is an allocation failure, or this opcode is at fault, whatever comes after the instructions
abbrev pub Located : Context → Labels → List Instr → ℕ → ℕ → InstrFault → Type 0
Located C labels instrs first n OutOfMemory = Unit {0}
Located C labels instrs first n (Breaks kind) = (after : List Instr) → FaultyAt C labels (instrs ++ after) kind first n

-- the instructions have been counted up to their end, or up to one that breaks the rule
abbrev pub Counts : {X : Type 0} → Result X InstrFault → Context → Labels → List Instr → ℕ → ℕ → Type 0
Counts (Ok x) C labels instrs first n = Counted C.blocks instrs first n
Counts (Err e) C labels instrs first n = Located C labels instrs first n e

-- the same for the instructions of a block
abbrev pub CountedBlock : Context → ℕ → ℕ → ℕ → Type 0
CountedBlock C block first n = (body : List Instr) × (slice_get C.blocks block ≡ Some body) × Counted C.blocks body first n

abbrev pub LocatedBlock : Context → Labels → ℕ → ℕ → ℕ → InstrFault → Type 0
LocatedBlock C labels block first n OutOfMemory = Unit {0}
LocatedBlock C labels block first n (Breaks kind) = (body : List Instr) × (slice_get C.blocks block ≡ Some body) × FaultyAt C labels body kind first n

abbrev pub CountsBlock : {X : Type 0} → Result X InstrFault → Context → Labels → ℕ → ℕ → ℕ → Type 0
CountsBlock (Ok x) C labels block first n = CountedBlock C block first n
CountsBlock (Err e) C labels block first n = LocatedBlock C labels block first n e

abbrev pub IsLabelFault : FaultKind → Type 0
IsLabelFault e = e ≡ Label

abbrev pub IsIndexFault : FaultKind → Type 0
IsIndexFault e = e ≡ Index

-- the refusal is an allocation failure, or about types at this number
abbrev pub StopsAt : InstrFault → ℕ → ℕ → Type 0
StopsAt e first n = IsUntyped e × (n ≡ first)

-- the same for a block and the opcode before it, which is at fault if there is no such block after it
abbrev pub LocatedNested : Context → Labels → ℕ → ℕ → ℕ → InstrFault → Type 0
LocatedNested C labels block first n e = StopsAt e first n ⊎ LocatedBlock C labels block (number_of (first + 1)) n e

abbrev pub CountsNested : {X : Type 0} → Result X InstrFault → Context → Labels → ℕ → ℕ → ℕ → Type 0
CountsNested (Ok x) C labels block first n = CountedBlock C block (number_of (first + 1)) n
CountsNested (Err e) C labels block first n = LocatedNested C labels block first n e

-- the same for the else part of an `if`, whose opcodes begin at its `else`; an absent part has no opcodes
abbrev pub CountedElse : Context → ℕ → Else → ℕ → ℕ → Type 0
CountedElse C block Present first n = CountedBlock C block (number_of (first + 1)) n
CountedElse C block Absent first n = n ≡ first

abbrev pub LocatedElse : Context → Labels → ℕ → Option ValType → Else → ℕ → ℕ → InstrFault → Type 0
LocatedElse C labels block t Present first n e = LocatedNested C (t ∷ labels) block first n e
LocatedElse C labels block t Absent first n e = StopsAt e first n

abbrev pub CountsElse : {X : Type 0} → Result X InstrFault → Context → Labels → ℕ → Option ValType → Else → ℕ → ℕ → Type 0
CountsElse (Ok x) C labels block t part first n = CountedElse C block part first n
CountsElse (Err e) C labels block t part first n = LocatedElse C labels block t part first n e

-- the lists that the first instructions of block n make from no operands are those that the stack represents
pub record Reaches (C : Context) (n : ℕ) (labels : Labels) (before : List Instr) (s : Stack) : Type 0 where
  pub back : (us : List ValType) → Matches s us → Typed C n labels before [] us
  pub forth : (us : List ValType) → Typed C n labels before [] us → Matches s us

-- if the refusal is about types, this holds
abbrev pub IfUntyped : InstrFault → Type 0 → Type 0
IfUntyped e P = e ≡ Breaks BadType → P

-- in any block in which this instruction comes after others that make what the stack represents, typing stops at its
-- opcode `next`
abbrev pub StopsBehind : Context → ℕ → Labels → Instr → Stack → ℕ → ℕ → Type 0
StopsBehind C n labels i old first next =
    (before after : List Instr) (result : Option ValType) (start : ℕ) → Reaches C n labels before old → Counted C.blocks before start first
    → TypingStopsAt C n labels result (before ++ i ∷ after) start next

abbrev pub StopsInstr : Context → ℕ → Labels → Instr → Stack → ℕ → ℕ → InstrFault → Type 0
StopsInstr C n labels i old first next e = IfUntyped e (StopsBehind C n labels i old first next)

-- typing stops in block b, which exists
abbrev pub StopsInside : Context → ℕ → Labels → Option ValType → ℕ → ℕ → Type 0
StopsInside C b labels result first next = (body : List Instr) × (slice_get C.blocks b ≡ Some body) × TypingStopsAt C b labels result body first next

abbrev pub StopsBlock : Context → ℕ → Labels → Option ValType → ℕ → ℕ → InstrFault → Type 0
StopsBlock C b labels result first next e = IfUntyped e (StopsInside C b labels result first next)

-- typing stops in a block that block n names, or at the opcode before it if there is no such block after block n
abbrev pub StopsAtOrInside : Context → ℕ → ℕ → Labels → Option ValType → ℕ → ℕ → Type 0
StopsAtOrInside C n b labels result first next = ((IsBehind C n b → ⊥) × (next ≡ first)) ⊎ ((n < b) × StopsInside C b labels result (number_of (first + 1)) next)

abbrev pub StopsNested : Context → ℕ → ℕ → Labels → Option ValType → ℕ → ℕ → InstrFault → Type 0
StopsNested C n b labels result first next e = IfUntyped e (StopsAtOrInside C n b labels result first next)

-- the same for the else part of an `if`
abbrev pub StopsInElse : Context → ℕ → ℕ → Labels → Option ValType → Else → ℕ → ℕ → Type 0
StopsInElse C n b labels t Present first next = StopsAtOrInside C n b (t ∷ labels) t first next
StopsInElse C n b labels t Absent first next = (AbsentElse C b t → ⊥) × (next ≡ first)

abbrev pub StopsElse : Context → ℕ → ℕ → Labels → Option ValType → Else → ℕ → ℕ → InstrFault → Type 0
StopsElse C n b labels t part first next e = IfUntyped e (StopsInElse C n b labels t part first next)
