use Rattle.wm_standard.proofs.ThinAir.{values-out-of-thin-air}
use Rattle.wm_standard.proofs.law.values_out_of_thin_air.Goals as goal

pub returns : goal.returns
returns c = values-out-of-thin-air
