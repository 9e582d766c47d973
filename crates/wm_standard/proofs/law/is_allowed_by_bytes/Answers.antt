use Rattle.wm_standard.proofs.Readings.{is-allowed-by-bytes}
use Rattle.wm_standard.proofs.law.is_allowed_by_bytes.Goals as goal

pub returns : goal.returns
returns c = is-allowed-by-bytes
