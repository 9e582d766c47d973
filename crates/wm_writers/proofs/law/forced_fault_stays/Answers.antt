use Rattle.wm_writers.proofs.ForcedLaw.{forced-fault-stays}
use Rattle.wm_writers.proofs.law.forced_fault_stays.Goals as goal

pub returns : goal.returns
returns c = forced-fault-stays
