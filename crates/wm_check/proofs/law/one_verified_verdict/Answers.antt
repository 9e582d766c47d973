use Rattle.wm_check.proofs.OneVerified.{one_verified}
use Rattle.wm_check.proofs.law.one_verified_verdict.Goals as goal

pub returns : goal.returns
returns c = one_verified (record { modules = c.spelled_once.ensures; pairs = c.one_pair.ensures })
