use Rattle.wm_check.proofs.AsCheck.{as_check}
use Rattle.wm_check.proofs.law.verify_is_check_of_completed.Goals as goal

pub returns : goal.returns
returns c = as_check (record { modules = c.spelled_once.ensures; pairs = c.one_pair.ensures })
