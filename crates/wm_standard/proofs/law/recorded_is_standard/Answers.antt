use Rattle.wm_standard.proofs.RecordedLaw.{recorded-is-standard}
use Rattle.wm_standard.proofs.law.recorded_is_standard.Goals as goal

pub returns : goal.returns
returns c = recorded-is-standard
