use Rattle.wm_sites.proofs.MadeAtOpcodes.{made_there}
use Rattle.wm_sites.proofs.law.made_at_opcodes.Goals as goal

pub returns : goal.returns
returns c = made_there
