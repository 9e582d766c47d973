use Rattle.std.proofs.Common.{◌≡◌}
use Rattle.wm_recorder.specs.Transcript.{thread_events, thread_writers}
use Rattle.wm_recorder.proofs.transcript.Transcript.into_parts.Given as goal

abbrev pub invariant-loop-record : goal.invariant-loop-record
invariant-loop-record l = record {
  events : l.events.items ≡ thread_events l.yielded;
  writers : l.writers.items ≡ thread_writers l.yielded;
}
