-- The initial bytes of a memory.
use Rattle.std.specs.Prelude.{ℕ, List, ◌++◌, ◌-◌, length, replicate}

-- these bytes, then zeros, up to this length
abbrev pub with_zeros : List ℕ → ℕ → List ℕ
with_zeros bytes len = bytes ++ replicate (len - length bytes) 0
