use Rattle.wm_event.specs.Writes.{AreWrites}
use Rattle.wm_event.proofs.WritesLemmas.{AreOfThreads}
use Rattle.wm_event.proofs.writes.writes_by_thread.Given as goal

-- the threads so far have their writes
abbrev pub invariant-loop-thread : goal.invariant-loop-thread
invariant-loop-thread l = AreOfThreads (AreWrites l.log) l.log l.by_thread.items l.thread-index
