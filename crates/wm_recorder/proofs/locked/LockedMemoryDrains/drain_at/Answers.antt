use Rattle.std.proofs.lemmas.Result.{IfOk-weaker}
use Rattle.wm_recorder.proofs.locked.LockedMemoryDrains.drain_at.Goals as goal

pub returns-clause-drained : goal.returns-clause-drained
returns-clause-drained g c = IfOk-weaker c.drain_at.result _ _ (λ drained is. (c.deref_mut-held.result.now.recorder, c.drain_at.new.self.recorder, is)) c.drain_at.ensures.made
