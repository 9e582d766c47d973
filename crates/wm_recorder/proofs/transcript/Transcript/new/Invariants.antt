use Rattle.std.proofs.Common.{◌≡◌, [], replicate}
use Rattle.wm_recorder.specs.Transcript.{thread_events, thread_writers}
use Rattle.wm_recorder.proofs.transcript.Transcript.new.Given as goal

abbrev pub invariant-loop-thread : goal.invariant-loop-thread
invariant-loop-thread l = record {
  events : thread_events l.records.items ≡ replicate l.thread [];
  writers : thread_writers l.records.items ≡ replicate l.thread [];
}
