use Rattle.wm_recorder.specs.Locked.{MadeOnce}
use Rattle.wm_recorder.proofs.Outcomes.{of_err, of_ok}
use Rattle.wm_recorder.proofs.locked.LockedMemoryAccesses.access.Goals as goal

pub returns-clause-made : goal.returns-clause-made
returns-clause-made g c =
    of_ok (MadeOnce g.N.Over.initial g.N.Over.threads c.args.thread c.args.op) c.access.result
    (c.deref_mut-held.result.now.recorder, c.access.new.self.recorder, c.access.ensures.made)

pub returns-clause-refused : goal.returns-clause-refused
returns-clause-refused g c =
    of_err (MadeOnce g.N.Over.initial g.N.Over.threads c.args.thread c.args.op) c.access.result
    (c.deref_mut-held.result.now.recorder, c.access.new.self.recorder, c.access.ensures.made)
