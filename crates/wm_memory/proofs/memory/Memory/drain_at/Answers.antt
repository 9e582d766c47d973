use Rattle.wm_memory.proofs.Fitting.{publishing_fits}
use Rattle.wm_memory.proofs.memory.Memory.drain_at.Goals as goal

pub returns-clause-fits : goal.returns-clause-fits
returns-clause-fits c = publishing_fits c.args.thread c.args.index c.args.self.now c.publish.new.self c.publish.ensures
