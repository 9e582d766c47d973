-- The opcodes (Core 1.0, section 5.4; threads proposal, "Atomic Memory Instructions").
use Rattle.std.specs.Prelude.{ℕ, suc, List, [], ◌∷◌, ◌++◌, map, Option, Some, None, ◌==◌, nat_lt, if◌then◌else◌}
use Rattle.wm_num.specs.declared.operator.Width.{Width}
use Rattle.wm_num.specs.declared.operator.Width.TheVariants.{W32, W64}
use Rattle.wm_num.specs.declared.operator.Comparison.TheVariants as compare
use Rattle.wm_num.specs.declared.operator.UnaryOperator.TheVariants.{Clz, Ctz, Popcnt}
use Rattle.wm_num.specs.declared.operator.BinaryOperator.TheVariants as binary
use Rattle.wm_num.specs.declared.operator.Conversion.TheVariants.{WrapI64, ExtendI32S, ExtendI32U}
use Rattle.wm_ast.specs.declared.types.ValType.TheVariants as value
use Rattle.wm_ast.specs.declared.access.Storage.{Storage}
use Rattle.wm_ast.specs.declared.access.Storage.TheVariants as storage
use Rattle.wm_ast.specs.declared.access.Narrow.TheVariants as narrow
use Rattle.wm_access.specs.declared.RmwOperator.TheVariants as update
use Rattle.wm_ast.specs.declared.access.AccessKind.{AccessKind}
use Rattle.wm_ast.specs.declared.access.AccessKind.TheVariants.{Read, ReadSigned, Write, AtomicRead, AtomicWrite, Rmw, CmpXchg}
use Rattle.wm_ast.specs.declared.instr.Instr.TheVariants as instr
use Rattle.wm_decode.specs.declared.opcode.Indexed.TheVariants.{Br, BrIf, Call, LocalGet, LocalSet, LocalTee, GlobalGet, GlobalSet}
use Rattle.wm_decode.specs.declared.opcode.Opcode.{Opcode}
use Rattle.wm_decode.specs.declared.opcode.Opcode.TheVariants.{NoImmediates, Indexed, BrTable, Access, MemorySize, I32Const, I64Const, Atomic}

-- the first entry of this code
abbrev pub lookup : {X : Type 0} → ℕ → List (ℕ × X) → Option X
lookup code [] = None
lookup code (e ∷ es) = if code == e.0 then Some e.1 else lookup code es

-- the codes from this one on, one for each item
abbrev pub from : {X : Type 0} → ℕ → List X → List (ℕ × X)
from code [] = []
from code (x ∷ xs) = (code, x) ∷ from (suc code) xs

abbrev pub control_opcodes : List (ℕ × Opcode)
control_opcodes =
    (0x00, NoImmediates instr.Unreachable) ∷ (0x01, NoImmediates instr.Nop) ∷
    (0x0C, Indexed Br) ∷ (0x0D, Indexed BrIf) ∷ (0x0E, BrTable) ∷ (0x0F, NoImmediates instr.Return) ∷ (0x10, Indexed Call) ∷
    (0x1A, NoImmediates instr.Drop) ∷ (0x1B, NoImmediates instr.Select) ∷
    (0x20, Indexed LocalGet) ∷ (0x21, Indexed LocalSet) ∷ (0x22, Indexed LocalTee) ∷ (0x23, Indexed GlobalGet) ∷ (0x24, Indexed GlobalSet) ∷ []

abbrev pub memory_opcodes : List (ℕ × Opcode)
memory_opcodes =
    (0x28, Access (Read storage.I32)) ∷ (0x29, Access (Read storage.I64)) ∷
    (0x2C, Access (ReadSigned narrow.I32As8)) ∷ (0x2D, Access (Read storage.I32As8)) ∷ (0x2E, Access (ReadSigned narrow.I32As16)) ∷ (0x2F, Access (Read storage.I32As16)) ∷
    (0x30, Access (ReadSigned narrow.I64As8)) ∷ (0x31, Access (Read storage.I64As8)) ∷ (0x32, Access (ReadSigned narrow.I64As16)) ∷ (0x33, Access (Read storage.I64As16)) ∷
    (0x34, Access (ReadSigned narrow.I64As32)) ∷ (0x35, Access (Read storage.I64As32)) ∷
    (0x36, Access (Write storage.I32)) ∷ (0x37, Access (Write storage.I64)) ∷
    (0x3A, Access (Write storage.I32As8)) ∷ (0x3B, Access (Write storage.I32As16)) ∷ (0x3C, Access (Write storage.I64As8)) ∷ (0x3D, Access (Write storage.I64As16)) ∷ (0x3E, Access (Write storage.I64As32)) ∷
    (0x3F, MemorySize) ∷ []

abbrev pub comparisons : Width → List Opcode
comparisons w =
    NoImmediates (instr.Eqz w) ∷ map (λ op. NoImmediates (instr.Compare op w)) (compare.Eq ∷ compare.Ne ∷ compare.LtS ∷ compare.LtU ∷ compare.GtS ∷ compare.GtU ∷ compare.LeS ∷ compare.LeU ∷ compare.GeS ∷ compare.GeU ∷ [])

abbrev pub arithmetic : Width → List Opcode
arithmetic w =
    map (λ op. NoImmediates (instr.Unary op w)) (Clz ∷ Ctz ∷ Popcnt ∷ [])
    ++ map (λ op. NoImmediates (instr.Binary op w)) (binary.Add ∷ binary.Sub ∷ binary.Mul ∷ binary.DivS ∷ binary.DivU ∷ binary.RemS ∷ binary.RemU ∷ binary.And ∷ binary.Or ∷ binary.Xor ∷ binary.Shl ∷ binary.ShrS ∷ binary.ShrU ∷ binary.Rotl ∷ binary.Rotr ∷ [])

abbrev pub comparison_opcodes : List (ℕ × Opcode)
comparison_opcodes = from 0x45 (comparisons W32) ++ from 0x50 (comparisons W64)

abbrev pub arithmetic_32_opcodes : List (ℕ × Opcode)
arithmetic_32_opcodes = from 0x67 (arithmetic W32)

abbrev pub arithmetic_64_opcodes : List (ℕ × Opcode)
arithmetic_64_opcodes = from 0x79 (arithmetic W64)

abbrev pub other_opcodes : List (ℕ × Opcode)
other_opcodes =
    (0x41, I32Const) ∷ (0x42, I64Const) ∷
    (0xA7, NoImmediates (instr.Convert WrapI64)) ∷ (0xAC, NoImmediates (instr.Convert ExtendI32S)) ∷ (0xAD, NoImmediates (instr.Convert ExtendI32U)) ∷ (0xFE, Atomic) ∷ []

-- the meaning of a byte as an opcode that starts no block
unfoldable pub opcode_at : ℕ → Option Opcode
opcode_at code =
    if nat_lt code 0x28 then lookup code control_opcodes else (
    if nat_lt code 0x41 then lookup code memory_opcodes else (
    if nat_lt code 0x45 then lookup code other_opcodes else (
    if nat_lt code 0x67 then lookup code comparison_opcodes else (
    if nat_lt code 0x79 then lookup code arithmetic_32_opcodes else (
    if nat_lt code 0x8B then lookup code arithmetic_64_opcodes else
    lookup code other_opcodes)))))

-- the immediates in the order of the codes
abbrev pub storages : List Storage
storages = storage.I32 ∷ storage.I64 ∷ storage.I32As8 ∷ storage.I32As16 ∷ storage.I64As8 ∷ storage.I64As16 ∷ storage.I64As32 ∷ []

abbrev pub atomic_moves : List (ℕ × AccessKind)
atomic_moves = from 0x10 (map AtomicRead storages ++ map AtomicWrite storages) ++ (0x48, CmpXchg value.I32) ∷ (0x49, CmpXchg value.I64) ∷ []

abbrev pub first_updates : List (ℕ × AccessKind)
first_updates = from 0x1E (map (Rmw update.Add) storages ++ map (Rmw update.Sub) storages ++ map (Rmw update.And) storages)

abbrev pub last_updates : List (ℕ × AccessKind)
last_updates = from 0x33 (map (Rmw update.Or) storages ++ map (Rmw update.Xor) storages ++ map (Rmw update.Xchg) storages)

-- the access that a code after the prefix FE means
unfoldable pub atomic_at : ℕ → Option AccessKind
atomic_at code =
    if nat_lt code 0x1E then lookup code atomic_moves else (
    if nat_lt code 0x33 then lookup code first_updates else (
    if nat_lt code 0x48 then lookup code last_updates else
    lookup code atomic_moves))
