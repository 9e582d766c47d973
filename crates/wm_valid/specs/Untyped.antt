-- Where the typing of a block stops: the opcodes before that point have a typing, but not together with the next one.
use Rattle.std.specs.Prelude.{ℕ, ◌≡◌, ◌+◌, ◌<◌, ◌++◌, List, [], ◌∷◌, Option, Some, None, slice_get}
use Rattle.wm_ast.specs.declared.types.ValType.{ValType}
use Rattle.wm_ast.specs.declared.types.ValType.TheVariants.{I32}
use Rattle.wm_ast.specs.declared.instr.Else.{Else}
use Rattle.wm_ast.specs.declared.instr.Else.TheVariants.{Present, Absent}
use Rattle.wm_ast.specs.declared.instr.Instr.{Instr}
use Rattle.wm_ast.specs.declared.instr.Instr.TheVariants.{Block, Loop, If}
use Rattle.wm_valid.specs.InstrTypes.{Context, Labels, listed}
use Rattle.wm_valid.specs.Typing.{Typed, Nested, AbsentElse}
use Rattle.wm_valid.specs.Locations.{Part, parts, Opcodes, number_of}

-- these instructions, the first of block n, make some list from no operands
abbrev pub HasTyping : Context → ℕ → Labels → List Instr → Type 0
HasTyping C n labels before = (us : List ValType) × Typed C n labels before [] us

-- they make a list with an i32 on top
abbrev pub HasTest : Context → ℕ → Labels → List Instr → Type 0
HasTest C n labels before = (us : List ValType) × Typed C n labels before [] (I32 ∷ us)

-- block b exists, after block n
abbrev pub IsBehind : Context → ℕ → ℕ → Type 0
IsBehind C n b = (n < b) × ((body : List Instr) × (slice_get C.blocks b ≡ Some body))

-- they and the opcode of the next instruction have a typing; the opcode of a `block`, a `loop` or an `if` opens a block
abbrev pub HasTypingWith : Context → ℕ → Labels → List Instr → Instr → Type 0
HasTypingWith C n labels before (Block t b) = HasTyping C n labels before × IsBehind C n b
HasTypingWith C n labels before (Loop t b) = HasTyping C n labels before × IsBehind C n b
HasTypingWith C n labels before (If t one other part) = HasTest C n labels before × IsBehind C n one
HasTypingWith C n labels before i = HasTyping C n labels (before ++ i ∷ [])

-- the opcode after the first block of an `if` continues it: an `else` opens a block, and an `end` closes an `if` whose
-- else part is absent
abbrev pub GoesOn : Context → ℕ → ℕ → Option ValType → Else → Type 0
GoesOn C n other t Present = IsBehind C n other
GoesOn C n other t Absent = AbsentElse C other t

-- the result of an instruction's blocks
abbrev pub block_result : Instr → Option ValType
block_result (Block t b) = t
block_result (Loop t b) = t
block_result (If t one other part) = t
block_result _ = None

-- they and an `if` up to the end of its first block, which has this number of opcodes, have a typing
pub record PastFirst (C : Context) (n : ℕ) (labels : Labels) (before : List Instr) (t : Option ValType) (one opcodes : ℕ) : Type 0 where
  pub test : HasTest C n labels before
  pub first : Nested C n one (t ∷ labels) t
  pub are_opcodes : Opcodes C.blocks [] first.block.body opcodes

-- instruction i is in these instructions after `before`, which has this number of opcodes
pub record StandsBehind (C : Context) (instrs before : List Instr) (i : Instr) (opcodes : ℕ) : Type 0 where
  pub after : List Instr
  pub is : instrs ≡ before ++ i ∷ after
  pub are_opcodes : Opcodes C.blocks [] before opcodes

-- In the block n of these instructions, under these labels and with this result, typing stops at opcode k: the opcodes
-- before it have a typing, but not together with it. The opcode after all the instructions is the block's `end`, or the
-- `else` after the first block of an `if`.
pub data StopsTyping (C : Context) : ℕ → Labels → Option ValType → List Instr → ℕ → Type 0 where
  -- at the opcode of an instruction
  at_opcode : {n k : ℕ} {labels : Labels} {result : Option ValType} {instrs : List Instr} (before : List Instr) (i : Instr) → StandsBehind C instrs before i k
      → HasTyping C n labels before → (HasTypingWith C n labels before i → ⊥) → StopsTyping C n labels result instrs k
  -- at the end, if the result isn't made
  at_end : {n k : ℕ} {labels : Labels} {result : Option ValType} {instrs : List Instr} → Opcodes C.blocks [] instrs k → HasTyping C n labels instrs
      → (Typed C n labels instrs [] (listed result) → ⊥) → StopsTyping C n labels result instrs k
  -- in the first block of an instruction
  in_first : {n j k : ℕ} {labels : Labels} {result : Option ValType} {instrs : List Instr} (before : List Instr) (i : Instr) (p : Part) (ps : List Part) (body : List Instr) → StandsBehind C instrs before i j
      → HasTypingWith C n labels before i → parts i ≡ p ∷ ps → slice_get C.blocks p.block ≡ Some body → StopsTyping C p.block (p.label ∷ labels) (block_result i) body k
      → StopsTyping C n labels result instrs (j + (1 + k))
  -- at the opcode after the first block of an `if`
  behind_first : {n j l : ℕ} {labels : Labels} {result : Option ValType} {instrs : List Instr} (before : List Instr) (t : Option ValType) (one other : ℕ) (part : Else)
      → StandsBehind C instrs before (If t one other part) j → PastFirst C n labels before t one l → (GoesOn C n other t part → ⊥) → StopsTyping C n labels result instrs (j + (1 + l))
  -- in the second block of an `if`
  in_second : {n j l k : ℕ} {labels : Labels} {result : Option ValType} {instrs : List Instr} (before : List Instr) (t : Option ValType) (one other : ℕ) (body : List Instr)
      → StandsBehind C instrs before (If t one other Present) j → PastFirst C n labels before t one l → n < other → slice_get C.blocks other ≡ Some body
      → StopsTyping C other (t ∷ labels) t body k → StopsTyping C n labels result instrs (j + (1 + (l + 1 + k)))

-- opcode n of a block's instructions, counted from `first`, is where typing stops
pub record TypingStopsAt (C : Context) (block : ℕ) (labels : Labels) (result : Option ValType) (body : List Instr) (first n : ℕ) : Type 0 where
  pub number : ℕ
  pub stops : StopsTyping C block labels result body number
  pub is_number : n ≡ number_of (first + number)
