use Rattle.wm_run.proofs.TracedStores.{stores_are_logged}
use Rattle.wm_run.proofs.scripts.tracing.traced_stores_are_logged.Goals as goal

pub returns : goal.returns
returns c = stores_are_logged
