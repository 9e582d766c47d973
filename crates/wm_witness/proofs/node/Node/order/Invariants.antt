use Rattle.wm_witness.specs.Rules.{IsNode}
use Rattle.wm_witness.proofs.node.Node.order.Given as goal

abbrev pub invariant-loop-place : goal.invariant-loop-place
invariant-loop-place l = IsNode l.start l.assumed l.self

abbrev pub invariant-loop-index : goal.invariant-loop-index
invariant-loop-index l = IsNode l.start l.assumed l.self
