use Rattle.wm_sequential.proofs.StoreBuffering.{standard-races-are-not-enough}
use Rattle.wm_sequential.proofs.law.standard_races_are_not_enough.Goals as goal

pub returns : goal.returns
returns c = standard-races-are-not-enough
