use Rattle.wm_recorder.proofs.Recording.{recording_new}
use Rattle.wm_recorder.proofs.recorder.Recorder.new.Goals as goal

pub invariant_of-result : goal.invariant_of-result
invariant_of-result c = recording_new c.in_ok-memory.memory c.in_ok-transcript.transcript c.args.threads c.args.initial.now c.len-len.ensures.bytes c.in_ok-memory.ensures c.in_ok-transcript.ensures
