use Rattle.wm_sequential.proofs.OverlappingUpdates.{plain-races-are-not-enough}
use Rattle.wm_sequential.proofs.law.plain_races_are_not_enough.Goals as goal

pub returns : goal.returns
returns c = plain-races-are-not-enough
