use Rattle.wm_replay.proofs.OnePosition.{one_position}
use Rattle.wm_replay.proofs.law.one_position.Goals as goal

pub returns : goal.returns
returns c = one_position
