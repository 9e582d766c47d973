use Rattle.wm_witness.specs.Rules.{IsNode}
use Rattle.wm_witness.proofs.node.Node.take_all.Given as goal

abbrev pub invariant-loop-byte : goal.invariant-loop-byte
invariant-loop-byte l = IsNode l.start l.assumed l.self
