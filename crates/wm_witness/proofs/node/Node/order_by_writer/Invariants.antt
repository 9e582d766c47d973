use Rattle.wm_witness.specs.Rules.{IsNode}
use Rattle.wm_witness.proofs.node.Node.order_by_writer.Given as goal

abbrev pub invariant-loop-thread : goal.invariant-loop-thread
invariant-loop-thread l = IsNode l.start l.assumed l.self
