-- The bytes of instructions (Core 1.0, section 5.4; threads proposal, "Atomic Memory Instructions").
use Rattle.std.specs.Prelude.{◌≡◌, ℕ, ◌+◌, ◌-◌, ◌^◌, ◌<◌, List, [], ◌∷◌, ◌++◌, length, Option, Some, None}
use Rattle.wm_ast.specs.declared.types.ValType.{ValType}
use Rattle.wm_ast.specs.declared.types.ValType.TheVariants.{I32, I64}
use Rattle.wm_ast.specs.declared.access.AccessKind.{AccessKind}
use Rattle.wm_ast.specs.declared.instr.Instr.{Instr}
use Rattle.wm_ast.specs.declared.instr.Instr.TheVariants as instr
use Rattle.wm_ast.specs.declared.instr.Else.TheVariants.{Present, Absent}
use Rattle.wm_decode.specs.declared.opcode.Indexed.{Indexed}
use Rattle.wm_decode.specs.declared.opcode.Indexed.TheVariants as index
use Rattle.wm_decode.specs.declared.opcode.Opcode.{Opcode}
use Rattle.wm_decode.specs.declared.opcode.Opcode.TheVariants as opcode
use Rattle.wm_decode.specs.Numbers.{U32, Signed}
use Rattle.wm_decode.specs.Vectors.{Vector}
use Rattle.wm_decode.specs.Opcodes.{opcode_at, atomic_at}

-- the byte of a value type
abbrev pub value_type : ValType → ℕ
value_type I32 = 0x7F
value_type I64 = 0x7E

-- the byte of a block's type
abbrev pub block_type : Option ValType → ℕ
block_type None = 0x40
block_type (Some ty) = value_type ty

-- an instruction with its index
abbrev pub indexed_instr : Indexed → ℕ → Instr
indexed_instr index.Br n = instr.Br n
indexed_instr index.BrIf n = instr.BrIf n
indexed_instr index.Call n = instr.Call n
indexed_instr index.LocalGet n = instr.LocalGet n
indexed_instr index.LocalSet n = instr.LocalSet n
indexed_instr index.LocalTee n = instr.LocalTee n
indexed_instr index.GlobalGet n = instr.GlobalGet n
indexed_instr index.GlobalSet n = instr.GlobalSet n

abbrev pub access_instr : AccessKind → ℕ → ℕ → Instr
access_instr kind alignment offset = instr.Access kind (record { alignment = alignment; offset = offset })

-- The bytes after an opcode spell the rest of the instruction.
pub data Immediates : Opcode → List ℕ → Instr → Type 0 where
  alone : {i : Instr} → Immediates (opcode.NoImmediates i) [] i
  indexed : {kind : Indexed} {text : List ℕ} {n : ℕ} → U32 text n → Immediates (opcode.Indexed kind) text (indexed_instr kind n)
  br_table : {first second : List ℕ} {labels : List ℕ} {other : ℕ} → Vector U32 first labels → U32 second other → Immediates opcode.BrTable (first ++ second) (instr.BrTable labels other)
  access : {kind : AccessKind} {first second : List ℕ} {alignment offset : ℕ} →
      U32 first alignment → U32 second offset → Immediates (opcode.Access kind) (first ++ second) (access_instr kind alignment offset)
  memory_size : Immediates opcode.MemorySize (0x00 ∷ []) instr.MemorySize
  i32_const : {text : List ℕ} {n : ℕ} → Signed (2 ^ 32 - 1) text n → Immediates opcode.I32Const text (instr.I32Const n)
  i64_const : {text : List ℕ} {n : ℕ} → Signed (2 ^ 64 - 1) text n → Immediates opcode.I64Const text (instr.I64Const n)
  atomic : {kind : AccessKind} {code : ℕ} {text first second : List ℕ} {alignment offset : ℕ} →
      U32 text code → atomic_at code ≡ Some kind → U32 first alignment → U32 second offset →
      Immediates opcode.Atomic (text ++ (first ++ second)) (access_instr kind alignment offset)

-- The bytes spell an instruction without blocks.
pub data Plain : List ℕ → Instr → Type 0 where
  plain_instr : {code : ℕ} {op : Opcode} {text : List ℕ} {i : Instr} → opcode_at code ≡ Some op → Immediates op text i → Plain (code ∷ text) i

-- `Spells depth_left next text instrs nested`: the bytes spell the instructions, and `nested` are the blocks that begin
-- among them, in the order in which they begin; the first of these has the number `next`, and each other one the number
-- after the last. They nest at most depth_left deep. An `if` has two blocks. An absent else part is an empty one.
pub data Spells : ℕ → ℕ → List ℕ → List Instr → List (List Instr) → Type 0 where
  none : {depth_left next : ℕ} → Spells depth_left next [] [] []
  plain : {depth_left next : ℕ} {text rest : List ℕ} {i : Instr} {is : List Instr} {bs : List (List Instr)} →
      Plain text i → Spells depth_left next rest is bs → Spells depth_left next (text ++ rest) (i ∷ is) bs
  block : {depth_left next : ℕ} {ty : Option ValType} {inner rest : List ℕ} {body is : List Instr} {bs cs : List (List Instr)} →
      0 < depth_left → Spells (depth_left - 1) (next + 1) inner body bs → Spells depth_left (next + 1 + length bs) rest is cs →
      Spells depth_left next (0x02 ∷ block_type ty ∷ inner ++ 0x0B ∷ rest) (instr.Block ty next ∷ is) (body ∷ bs ++ cs)
  loop : {depth_left next : ℕ} {ty : Option ValType} {inner rest : List ℕ} {body is : List Instr} {bs cs : List (List Instr)} →
      0 < depth_left → Spells (depth_left - 1) (next + 1) inner body bs → Spells depth_left (next + 1 + length bs) rest is cs →
      Spells depth_left next (0x03 ∷ block_type ty ∷ inner ++ 0x0B ∷ rest) (instr.Loop ty next ∷ is) (body ∷ bs ++ cs)
  if_then : {depth_left next : ℕ} {ty : Option ValType} {inner rest : List ℕ} {yes is : List Instr} {bs cs : List (List Instr)} →
      0 < depth_left → Spells (depth_left - 1) (next + 1) inner yes bs → Spells depth_left (next + 1 + length bs + 1) rest is cs →
      Spells depth_left next (0x04 ∷ block_type ty ∷ inner ++ 0x0B ∷ rest) (instr.If ty next (next + 1 + length bs) Absent ∷ is) (yes ∷ bs ++ [] ∷ cs)
  if_else : {depth_left next : ℕ} {ty : Option ValType} {first second rest : List ℕ} {yes no is : List Instr} {bs cs ds : List (List Instr)} →
      0 < depth_left → Spells (depth_left - 1) (next + 1) first yes bs → Spells (depth_left - 1) (next + 1 + length bs + 1) second no cs →
      Spells depth_left (next + 1 + length bs + 1 + length cs) rest is ds →
      Spells depth_left next (0x04 ∷ block_type ty ∷ first ++ 0x05 ∷ second ++ 0x0B ∷ rest) (instr.If ty next (next + 1 + length bs) Present ∷ is) (yes ∷ bs ++ no ∷ cs ++ ds)
