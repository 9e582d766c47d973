-- Reading instructions from left to right.
use Rattle.std.specs.Prelude.{ℕ, zero, suc, ◌+◌, ◌-◌, ◌^◌, List, [], ◌∷◌, ◌++◌, length, Option, Some, None, Result, Ok, Err, ◌==◌, if◌then◌else◌}
use Rattle.wm_ast.specs.declared.types.ValType.{ValType}
use Rattle.wm_ast.specs.declared.types.ValType.TheVariants.{I32, I64}
use Rattle.wm_ast.specs.declared.access.AccessKind.{AccessKind}
use Rattle.wm_ast.specs.declared.instr.Instr.{Instr}
use Rattle.wm_ast.specs.declared.instr.Instr.TheVariants as instr
use Rattle.wm_ast.specs.declared.instr.Else.TheVariants.{Present, Absent}
use Rattle.wm_decode.specs.declared.fault.Limit.TheVariants.{Nesting}
use Rattle.wm_decode.specs.declared.fault.FaultKind.TheVariants.{BadNumber, UnknownOpcode}
use Rattle.wm_decode.specs.declared.opcode.Opcode.{Opcode}
use Rattle.wm_decode.specs.declared.opcode.Opcode.TheVariants as opcode
use Rattle.wm_decode.specs.Stop.{Stop, stop, ended, past, map_stop, moved}
use Rattle.wm_decode.specs.Faults.{value_type_fault, block_type_fault, atomic_fault, opcode_fault}
use Rattle.wm_decode.specs.Reading.{◌>>=◌, signed_at}
use Rattle.wm_decode.specs.ReadingVectors.{u32_at, vector_at}
use Rattle.wm_decode.specs.Opcodes.{opcode_at, atomic_at}
use Rattle.wm_decode.specs.Instructions.{indexed_instr, access_instr}

abbrev pub InstrAt : Type 0
InstrAt = Result (Instr × List ℕ) Stop

unfoldable pub value_type_at : List ℕ → Result (ValType × List ℕ) Stop
value_type_at [] = Err ended
value_type_at (b ∷ bytes) = if b == 0x7F then Ok (I32, bytes) else (if b == 0x7E then Ok (I64, bytes) else Err (stop (value_type_fault b) (length (b ∷ bytes))))

unfoldable pub block_type_at : List ℕ → Result (Option ValType × List ℕ) Stop
block_type_at [] = Err ended
block_type_at (b ∷ bytes) =
    if b == 0x40 then Ok (None, bytes) else (if b == 0x7F then Ok (Some I32, bytes) else (if b == 0x7E then Ok (Some I64, bytes) else
    Err (stop (block_type_fault b) (length (b ∷ bytes)))))

-- the immediates of an access
unfoldable pub access_at : AccessKind → List ℕ → InstrAt
access_at kind bytes = do
  alignment ← u32_at bytes
  offset ← u32_at alignment.1
  Ok (access_instr kind alignment.0 offset.0, offset.1)

-- the access that a code means, after the code; `other` is how reading stops if it means none
abbrev pub access_of : Stop → Option AccessKind → List ℕ → InstrAt
access_of other None bytes = Err other
access_of other (Some kind) bytes = access_at kind bytes

-- an atomic access after its prefix; a fault of its code is at the prefix
unfoldable pub atomic_access_at : List ℕ → InstrAt
atomic_access_at bytes = do
  code ← map_stop (moved (length bytes + 1)) (u32_at bytes)
  access_of (stop (atomic_fault code.0) (length bytes + 1)) (atomic_at code.0) code.1

abbrev pub zero_at : List ℕ → InstrAt
zero_at [] = Err ended
zero_at (b ∷ bytes) = if b == 0x00 then Ok (instr.MemorySize, bytes) else Err (stop BadNumber (length (b ∷ bytes)))

-- the immediates of an instruction, after its opcode
unfoldable pub immediates_at : Opcode → List ℕ → InstrAt
immediates_at (opcode.NoImmediates i) bytes = Ok (i, bytes)
immediates_at (opcode.Indexed kind) bytes = u32_at bytes >>= λ n. Ok (indexed_instr kind n.0, n.1)
immediates_at opcode.BrTable bytes = vector_at u32_at bytes >>= λ labels. u32_at labels.1 >>= λ other. Ok (instr.BrTable labels.0 other.0, other.1)
immediates_at (opcode.Access kind) bytes = access_at kind bytes
immediates_at opcode.MemorySize bytes = zero_at bytes
immediates_at opcode.I32Const bytes = signed_at (2 ^ 32 - 1) bytes >>= λ n. Ok (instr.I32Const n.0, n.1)
immediates_at opcode.I64Const bytes = signed_at (2 ^ 64 - 1) bytes >>= λ n. Ok (instr.I64Const n.0, n.1)
immediates_at opcode.Atomic bytes = atomic_access_at bytes

-- the immediates of the instruction that an opcode means; `other` is how reading stops if it means none
abbrev pub operands_of : Stop → Option Opcode → List ℕ → InstrAt
operands_of other None bytes = Err other
operands_of other (Some op) bytes = immediates_at op bytes

-- an instruction without blocks, after its first byte; if no such instruction begins with that byte, the fault is there
unfoldable pub plain_at : ℕ → List ℕ → InstrAt
plain_at code bytes = operands_of (stop (opcode_fault code) (length bytes + 1)) (opcode_at code) bytes

-- the instructions of a block, the blocks that begin among them, the byte that closes it, and the bytes after that
pub record Body : Type 0 where
  pub instrs : List Instr
  pub nested : List (List Instr)
  pub closer : ℕ
  pub rest : List ℕ

-- an instruction, the blocks that begin in it, and the bytes after it
pub record One : Type 0 where
  pub instr : Instr
  pub nested : List (List Instr)
  pub rest : List ℕ

abbrev pub Reader : Type 0
Reader = ℕ → ℕ → List ℕ → Result Body Stop

-- the instructions of a block that only an end closes
unfoldable pub closed_with : Reader → Reader
closed_with read depth_left next bytes = do
  body ← read depth_left next bytes
  if body.closer == 0x0B then Ok body else Err (stop (UnknownOpcode body.closer) (length body.rest + 1))

-- the type of a block that may still nest; otherwise the fault is at its opcode
unfoldable pub opened_at : ℕ → List ℕ → Result (Option ValType × List ℕ) Stop
opened_at depth_left bytes = if depth_left == 0 then Err (past Nesting (length bytes + 1)) else block_type_at bytes

-- a block or a loop after its opcode, whose instructions are read by `read`
unfoldable pub framed_with : Reader → ℕ → ℕ → (Option ValType → ℕ → Instr) → List ℕ → Result One Stop
framed_with read depth_left next make bytes = do
  ty ← opened_at depth_left bytes
  body ← closed_with read (depth_left - 1) (next + 1) ty.1
  Ok (record { instr = make ty.0 next; nested = body.instrs ∷ body.nested; rest = body.rest })

abbrev pub then_one : Option ValType → ℕ → Body → One
then_one ty next one = record { instr = instr.If ty next (next + 1 + length one.nested) Absent; nested = one.instrs ∷ one.nested ++ [] ∷ []; rest = one.rest }

abbrev pub else_one : Option ValType → ℕ → Body → Body → One
else_one ty next one two = record { instr = instr.If ty next (next + 1 + length one.nested) Present; nested = one.instrs ∷ one.nested ++ two.instrs ∷ two.nested; rest = two.rest }

-- an `if` after its opcode
unfoldable pub if_with : Reader → ℕ → ℕ → List ℕ → Result One Stop
if_with read depth_left next bytes = do
  ty ← opened_at depth_left bytes
  one ← read (depth_left - 1) (next + 1) ty.1
  if one.closer == 0x0B then Ok (then_one ty.0 next one) else do
    two ← closed_with read (depth_left - 1) (next + 1 + length one.nested + 1) one.rest
    Ok (else_one ty.0 next one two)

unfoldable pub instr_with : Reader → ℕ → ℕ → ℕ → List ℕ → Result One Stop
instr_with read depth_left next op bytes =
    if op == 0x02 then framed_with read depth_left next instr.Block bytes else (
    if op == 0x03 then framed_with read depth_left next instr.Loop bytes else (
    if op == 0x04 then if_with read depth_left next bytes else
    (plain_at op bytes >>= λ x. Ok (record { instr = x.0; nested = []; rest = x.1 }))))

unfoldable pub instrs_at : ℕ → Reader
instrs_at zero depth_left next bytes = Err ended
instrs_at (suc fuel) depth_left next [] = Err ended
instrs_at (suc fuel) depth_left next (op ∷ bytes) =
    if op == 0x0B then Ok (record { instrs = []; nested = []; closer = op; rest = bytes }) else (
    if op == 0x05 then Ok (record { instrs = []; nested = []; closer = op; rest = bytes }) else (
    instr_with (instrs_at fuel) depth_left next op bytes >>= λ one.
    instrs_at fuel depth_left (next + length one.nested) one.rest >>= λ more.
    Ok (record { instrs = one.instr ∷ more.instrs; nested = one.nested ++ more.nested; closer = more.closer; rest = more.rest })))

-- as many iterations as there are bytes
abbrev pub instrs_in : Reader
instrs_in depth_left next bytes = instrs_at (length bytes) depth_left next bytes

abbrev pub instr_in : ℕ → ℕ → ℕ → List ℕ → Result One Stop
instr_in depth_left next op bytes = instr_with instrs_in depth_left next op bytes

abbrev pub closed_in : Reader
closed_in depth_left next bytes = closed_with instrs_in depth_left next bytes

-- the blocks of a function, the body first, and the bytes after its end
unfoldable pub blocks_at : ℕ → List ℕ → Result (List (List Instr) × List ℕ) Stop
blocks_at depth_left bytes = do
  b ← closed_in depth_left 1 bytes
  Ok (b.instrs ∷ b.nested, b.rest)
