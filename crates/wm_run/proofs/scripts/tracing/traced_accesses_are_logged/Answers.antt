use Rattle.wm_run.proofs.TracedEvents.{accesses_are_logged}
use Rattle.wm_run.proofs.scripts.tracing.traced_accesses_are_logged.Goals as goal

pub returns : goal.returns
returns c = accesses_are_logged
