use Rattle.std.proofs.lemmas.Result.{IfOk-weaker}
use Rattle.wm_recorder.proofs.locked.LockedMemoryDrains.drain.Goals as goal

pub returns-clause-drained : goal.returns-clause-drained
returns-clause-drained g c = IfOk-weaker c.drain.result _ _ (λ drained is. (c.deref_mut-held.result.now.recorder, c.drain.new.self.recorder, is)) c.drain.ensures.made
