use Rattle.wm_standard.proofs.RecordedLaw.{recorded-is-standard-by-bytes}
use Rattle.wm_standard.proofs.law.recorded_is_standard_by_bytes.Goals as goal

pub returns : goal.returns
returns c = recorded-is-standard-by-bytes
