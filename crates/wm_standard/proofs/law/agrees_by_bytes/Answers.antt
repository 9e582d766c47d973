use Rattle.wm_standard.proofs.ByteAgreement.{agrees-by-bytes}
use Rattle.wm_standard.proofs.law.agrees_by_bytes.Goals as goal

pub returns : goal.returns
returns c = agrees-by-bytes
