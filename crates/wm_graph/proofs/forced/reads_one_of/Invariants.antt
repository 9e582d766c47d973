use Rattle.std.specs.Prelude.{⊤}
use Rattle.wm_graph.proofs.forced.reads_one_of.Given as goal

abbrev pub invariant-loop-byte : goal.invariant-loop-byte
invariant-loop-byte l = ⊤
