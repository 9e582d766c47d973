use Rattle.wm_check.proofs.Alone.{alone, too_large}
use Rattle.wm_check.proofs.law.one_verdict.Goals as goal

pub returns-clause-allowed : goal.returns-clause-allowed
returns-clause-allowed c = alone (record { modules = c.spelled_once.ensures; pairs = c.one_pair.ensures })

pub returns-clause-too_large : goal.returns-clause-too_large
returns-clause-too_large c = too_large (record { modules = c.spelled_once.ensures; pairs = c.one_pair.ensures })
