use Rattle.std.proofs.Common.{arith}
use Rattle.std.proofs.lemmas.Grind.{common_steps}
use Rattle.wm_closure.proofs.lower_row.Goals as goal

pub loop-lane-preserved : goal.loop-lane-preserved
loop-lane-preserved c = grind (arith, common_steps)

pub returns-clause-lowered : goal.returns-clause-lowered
returns-clause-lowered c = grind (arith, common_steps)
