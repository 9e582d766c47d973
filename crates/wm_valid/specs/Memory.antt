-- The initial bytes of a module's memory (Core 1.0, section 4.5.4).
use Rattle.std.specs.Prelude.{ℕ, ◌≤◌, ◌+◌, ◌-◌, List, [], ◌∷◌, length, slice_index, nat_le, nat_lt, if◌then◌else◌}
use Rattle.wm_ast.specs.declared.module.Module.{Module}
use Rattle.wm_ast.specs.declared.module.DataSegment.{DataSegment}
use Rattle.wm_ast.specs.declared.module.ConstExpr.{ConstExpr}
use Rattle.wm_ast.specs.declared.module.ConstExpr.TheVariants.{I32, I64}

abbrev pub start : ConstExpr → ℕ
start (I32 n) = n
start (I64 n) = n

-- byte k of the segment if it covers k, otherwise this byte
abbrev pub over : DataSegment → ℕ → ℕ → ℕ
over d byte k =
    if nat_le (start d.offset) k then (if nat_lt k (start d.offset + length d.bytes) then slice_index d.bytes (k - start d.offset) else byte) else byte

-- byte k of the last of these segments that covers k, otherwise this byte
abbrev pub covered : List DataSegment → ℕ → ℕ → ℕ
covered [] byte k = byte
covered (d ∷ ds) byte k = covered ds (over d byte k) k

-- byte k of the initial memory
abbrev pub init : Module → ℕ → ℕ
init m k = covered m.data 0 k

-- the segment is within this number of bytes
abbrev pub Within : ℕ → DataSegment → Type 0
Within size d = start d.offset + length d.bytes ≤ size
