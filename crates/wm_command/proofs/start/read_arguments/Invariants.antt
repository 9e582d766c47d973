use Rattle.std.proofs.Common.{◌≡◌, ℕ, List, Some, Bor, map}
use Rattle.wm_command.specs.Each.{each}
use Rattle.wm_command.specs.Starts.{argument_of}
use Rattle.wm_command.proofs.start.read_arguments.Given as goal

abbrev pub invariant-loop-word : goal.invariant-loop-word
invariant-loop-word l = each argument_of (map (λ (word : Bor (List ℕ)). word.now) l.yielded) ≡ Some l.args.items
