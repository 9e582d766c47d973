use Rattle.std.proofs.Common.{refl}
use Rattle.wm_witness.proofs.node.Node.choose_all.Goals as goal

pub returns-in-Nothing-clause-closed : goal.returns-in-Nothing-clause-closed
returns-in-Nothing-clause-closed c = λ t. c.in-Nothing.ensures 0 (c.if-not-reads_bytes.ensures refl)
