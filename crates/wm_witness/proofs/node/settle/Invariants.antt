use Rattle.wm_witness.specs.Rules.{IsNode}
use Rattle.wm_witness.proofs.node.settle.Given as goal

abbrev pub invariant-loop : goal.invariant-loop
invariant-loop l = IsNode l.start l.assumed l.node
