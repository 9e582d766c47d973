use Rattle.wm_sequential.proofs.ThreadRuns.{runs-are-receptive}
use Rattle.wm_sequential.proofs.law.runs_are_receptive.Goals as goal

pub returns : goal.returns
returns c = runs-are-receptive
