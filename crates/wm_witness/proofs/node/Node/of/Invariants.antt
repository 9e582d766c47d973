use Rattle.wm_witness.specs.Rules.{IsNode}
use Rattle.wm_witness.proofs.node.Node.of.Given as goal

abbrev pub invariant-loop-index : goal.invariant-loop-index
invariant-loop-index l = IsNode l.start l.assumed l.node
