-- The limits of a log, each named once.
use Rattle.std.specs.Prelude.{ℕ}

-- threads of a log
abbrev pub max_threads : ℕ
max_threads = 16

-- steps of a thread
abbrev pub max_steps : ℕ
max_steps = 1000000

-- events of a log
abbrev pub max_events : ℕ
max_events = 16384
