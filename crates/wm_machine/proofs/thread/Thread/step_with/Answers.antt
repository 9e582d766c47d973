use Rattle.std.proofs.Common.{refl}
use Rattle.wm_machine.proofs.thread.Thread.step_with.Goals as goal

pub returns-in-Ok-clause-moves : goal.returns-in-Ok-clause-moves
returns-in-Ok-clause-moves c = (c.in-Ok.ensures.one refl).3
