use Rattle.std.specs.Prelude.{⊤}
use Rattle.wm_graph.proofs.forced.is_overwritten.Given as goal

abbrev pub invariant-loop-reader : goal.invariant-loop-reader
invariant-loop-reader l = ⊤
