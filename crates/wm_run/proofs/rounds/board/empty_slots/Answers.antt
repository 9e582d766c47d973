use Rattle.std.proofs.Common.{arith, rules}
use Rattle.std.proofs.lemmas.Grind.{common_steps}
use Rattle.wm_run.proofs.rounds.board.empty_slots.Goals as goal

pub loop-preserved : goal.loop-preserved
loop-preserved c = (search rules, search rules, grind (arith, common_steps))
