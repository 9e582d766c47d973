use Rattle.wm_writers.proofs.SourceLemmas.{AreBelow}
use Rattle.wm_writers.proofs.source.source_of.Given as goal

-- the bytes so far
abbrev pub invariant-loop-byte : goal.invariant-loop-byte
invariant-loop-byte l = AreBelow l.candidate l.need l.byte l.bytes
