use Rattle.wm_machine.specs.Paths.{here}
use Rattle.wm_machine.proofs.thread.Thread.run.Goals as goal

pub returns-then-is_some-clause-path : goal.returns-then-is_some-clause-path
returns-then-is_some-clause-path c = here
