use Rattle.std.proofs.Common.{subst}
use Rattle.wm_recorder.specs.Recorder.{Recording, RecordsValid, recording}
use Rattle.wm_recorder.proofs.Recording.{records_valid}
use Rattle.wm_recorder.proofs.recorder.Recorder.recorded_log_is_valid.Goals as goal

pub returns-clause-valid : goal.returns-clause-valid
returns-clause-valid c = subst (λ (r : Recording). RecordsValid r) c.self.view_is (records_valid (recording c.self.inside.memory c.self.inside.transcript) c.self.invariant)
