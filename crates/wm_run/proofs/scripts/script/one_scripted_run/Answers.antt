use Rattle.wm_run.proofs.Exists.{has_run}
use Rattle.wm_run.proofs.Once.{one_run}
use Rattle.wm_run.proofs.scripts.script.one_scripted_run.Goals as goal

pub returns-clause-one : goal.returns-clause-one
returns-clause-one c = one_run

pub returns-clause-some : goal.returns-clause-some
returns-clause-some c = has_run
