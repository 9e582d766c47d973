use Rattle.std.proofs.Common.{ℕ, ◌<◌}
use Rattle.wm_witness.specs.declared.assumption.Assumption.TheVariants.{Byte}
use Rattle.wm_witness.specs.Steps.{IsSpent}
use Rattle.wm_witness.proofs.new_split.new_split_on_bytes.Given as goal

abbrev pub invariant-loop-byte : goal.invariant-loop-byte
invariant-loop-byte l = (k : ℕ) → k < l.byte → IsSpent l.start.log l.assumed (Byte l.reader k l.writer)
