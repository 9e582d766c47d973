use Rattle.std.proofs.Common.{subst}
use Rattle.wm_recorder.specs.Recorder.{Recording, IsRecording}
use Rattle.wm_recorder.proofs.Recording.{shown_valid}
use Rattle.wm_recorder.proofs.Replies.{reply_answers}
use Rattle.wm_recorder.proofs.recorder.Recorder.step_access.Goals as goal

pub returns-then-thread-threads-clause-valid : goal.returns-then-thread-threads-clause-valid
returns-then-thread-threads-clause-valid c = shown_valid c.self.inside.memory c.self.inside.transcript c.args.self.now c.self.view_is c.self.invariant

pub returns-then-fields-bytes-clause-valid : goal.returns-then-fields-bytes-clause-valid
returns-then-fields-bytes-clause-valid c = shown_valid c.self.inside.memory c.self.inside.transcript c.args.self.now c.self.view_is c.self.invariant

pub returns-then-len-ge-MAX_EVENTS-clause-valid : goal.returns-then-len-ge-MAX_EVENTS-clause-valid
returns-then-len-ge-MAX_EVENTS-clause-valid c = shown_valid c.self.inside.memory c.self.inside.transcript c.args.self.now c.self.view_is c.self.invariant

pub returns-in-Ok-clause-answers : goal.returns-in-Ok-clause-answers
returns-in-Ok-clause-answers c =
    let is = subst (λ (r : Recording). IsRecording r) c.self.view_is c.self.invariant in
    reply_answers c.args.thread c.args.op c.args.self.now c.record.new.self c.in-Ok.reply is c.in-Ok.ensures.ok
