use Rattle.wm_event.specs.AtomicWrites.{AreAtomicWrites}
use Rattle.wm_event.proofs.WritesLemmas.{AreOfThreads}
use Rattle.wm_event.proofs.writes.atomic_writes_by_thread.Given as goal

-- the threads so far have their writes
abbrev pub invariant-loop-thread : goal.invariant-loop-thread
invariant-loop-thread l = AreOfThreads (AreAtomicWrites l.log) l.log l.by_thread.items l.thread-index
