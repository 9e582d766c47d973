use Rattle.std.proofs.Common.{◌≡◌, ℕ, List, Some, Bor, map}
use Rattle.wm_command.proofs.Keeping.{kept_of}
use Rattle.wm_command.proofs.turns.read_turns.Given as goal

abbrev pub invariant-loop-item : goal.invariant-loop-item
invariant-loop-item l = kept_of (map (λ (item : Bor (List ℕ)). item.now) l.yielded) ≡ Some l.turns.items
