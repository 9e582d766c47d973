use Rattle.std.proofs.Common.{refl}
use Rattle.wm_witness.proofs.node.settle.Goals as goal
use Rattle.wm_witness.proofs.node.settle.Goals.{then-has_cycle-via-then-has_cycle, then-has_cycle-via-else-has_cycle+then-contradicts}

pub returns-then-has_cycle : goal.returns-then-has_cycle
returns-then-has_cycle c = elim c.then-has_cycle.branch [
  | then-has_cycle-via-then-has_cycle w ↦ w.if-has_cycle.ensures refl
  | then-has_cycle-via-else-has_cycle+then-contradicts w ↦ w.if-contradicts.ensures refl
]
