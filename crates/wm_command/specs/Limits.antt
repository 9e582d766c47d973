-- The limits of what words spell.
use Rattle.std.specs.Prelude.{ℕ}

-- the most rounds
abbrev pub max_rounds : ℕ
max_rounds = 10000

-- the most events of a thread in an exploration
abbrev pub max_thread_events : ℕ
max_thread_events = 1024

-- the turns of a round's drainer
abbrev pub drainer_turns : ℕ
drainer_turns = 256

-- the most turns of a word that are kept: one more than a script may have
abbrev pub kept_turns : ℕ
kept_turns = 1000001
