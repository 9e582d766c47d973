-- The limit of a store buffer.
use Rattle.std.specs.Prelude.{ℕ}

-- the most plain stores of a thread that may wait
abbrev pub max_pending : ℕ
max_pending = 64
