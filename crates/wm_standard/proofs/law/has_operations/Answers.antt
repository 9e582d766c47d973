use Rattle.wm_standard.proofs.RecordedLaw.{has-operations}
use Rattle.wm_standard.proofs.law.has_operations.Goals as goal

pub returns : goal.returns
returns c = has-operations
