-- The limits of a script and of a round.
use Rattle.std.specs.Prelude.{ℕ}

-- the most turns of a script, and drains of a round
abbrev pub max_turns : ℕ
max_turns = 1000000
