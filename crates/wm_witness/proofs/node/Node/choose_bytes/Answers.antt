use Rattle.wm_witness.proofs.node.Node.choose_bytes.Goals as goal
use Rattle.wm_witness.proofs.node.Node.choose_bytes.Goals.{else-is_only-via-then-is_only+in_ok-choose_byte+else-branch, else-is_only-via-else-is_only}

pub loop-byte-preserved : goal.loop-byte-preserved
loop-byte-preserved c = elim c.else-is_only.branch [
  | else-is_only-via-then-is_only+in_ok-choose_byte+else-branch w ↦ rw w.self-is w.in_ok-choose_byte.ensures.node
  | else-is_only-via-else-is_only w ↦ rw w.self-is c.loop-byte.invariant
]
