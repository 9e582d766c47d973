use Rattle.std.proofs.Common.{◌≡◌, ℕ, List, Some, Bor, map, take}
use Rattle.wm_command.specs.Starts.{starts_of}
use Rattle.wm_command.proofs.start.read_starts.Given as goal

abbrev pub invariant-loop-word : goal.invariant-loop-word
invariant-loop-word l = starts_of (take l.word-index (map (λ (word : Bor (List ℕ)). word.now) l.words)) ≡ Some l.starts.items
