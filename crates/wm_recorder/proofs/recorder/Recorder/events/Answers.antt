use Rattle.std.proofs.Common.{◌≡◌, [], slice_get, unwrap_or, subst}
use Rattle.wm_recorder.specs.declared.transcript.ThreadRecord.{ThreadRecord}
use Rattle.wm_recorder.specs.Recorder.{Recording}
use Rattle.wm_recorder.proofs.Records.{past_mapped}
use Rattle.wm_recorder.proofs.Recording.{shown_valid}
use Rattle.wm_recorder.proofs.recorder.Recorder.events.Goals as goal

pub returns-in-Some-clause-valid : goal.returns-in-Some-clause-valid
returns-in-Some-clause-valid c = shown_valid c.self.inside.memory c.self.inside.transcript c.args.self.now c.self.view_is c.self.invariant

pub returns-in-None-clause-value : goal.returns-in-None-clause-value
returns-in-None-clause-value c =
    subst (λ (r : Recording). [] ≡ unwrap_or (slice_get r.events c.args.thread) []) c.self.view_is
    (past_mapped (λ (r : ThreadRecord). r.events.items) c.self.inside.transcript.threads.items c.deref.result.now c.args.thread c.deref.ensures.value c.in-None.ensures.lookup.3)

pub returns-in-None-clause-valid : goal.returns-in-None-clause-valid
returns-in-None-clause-valid c = shown_valid c.self.inside.memory c.self.inside.transcript c.args.self.now c.self.view_is c.self.invariant
