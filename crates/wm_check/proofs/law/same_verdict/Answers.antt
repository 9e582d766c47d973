use Rattle.wm_check.proofs.SameVerdict.{one_exact, one_part, one_status}
use Rattle.wm_check.proofs.law.same_verdict.Goals as goal

pub returns-clause-status : goal.returns-clause-status
returns-clause-status c = one_status (record { modules = c.spelled_once.ensures; pairs = c.one_pair.ensures })

pub returns-clause-exact : goal.returns-clause-exact
returns-clause-exact c = one_exact (record { modules = c.spelled_once.ensures; pairs = c.one_pair.ensures })

pub returns-clause-part : goal.returns-clause-part
returns-clause-part c = one_part (record { modules = c.spelled_once.ensures; pairs = c.one_pair.ensures })
