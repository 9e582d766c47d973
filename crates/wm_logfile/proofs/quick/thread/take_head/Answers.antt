use Rattle.std.proofs.Common.{arith}
use Rattle.wm_logfile.proofs.TakingThreads.{head_taken}
use Rattle.wm_logfile.proofs.quick.thread.take_head.Goals as goal

pub returns : goal.returns
returns c = grind (arith, head_taken)
