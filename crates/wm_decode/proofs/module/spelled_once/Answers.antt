use Rattle.wm_decode.proofs.OneModule.{one_module}
use Rattle.wm_decode.proofs.module.spelled_once.Goals as goal

pub returns : goal.returns
returns c = one_module
