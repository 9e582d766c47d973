use Rattle.std.proofs.Common.{arith}
use Rattle.std.proofs.lemmas.Grind.{common_steps}
use Rattle.std.proofs.lemmas.Option.{gets}
use Rattle.wm_memory.proofs.memory.Memory.may_leave.Goals as goal

pub returns-in-Some : goal.returns-in-Some
returns-in-Some c = grind (arith, common_steps, gets)

pub returns-in-None : goal.returns-in-None
returns-in-None c = grind (arith, common_steps, gets)
