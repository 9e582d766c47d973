-- Everything that is looked up about the writes of a candidate.
use Rattle.std.specs.Prelude.{List}
use Rattle.wm_event.specs.declared.event.EventKey.{EventKey}
use Rattle.wm_event.specs.declared.log.ThreadLog.{ThreadLog}
use Rattle.wm_event.specs.declared.writes.WriteIndex.{WriteIndex}
use Rattle.wm_event.specs.AtomicWrites.{AreAtomicWrites, AreThreadAtomicWrites}
use Rattle.wm_event.specs.Writes.{AreThreadWrites, AreWrites}

-- the writes of each byte, and the atomic writes of each range, in the order and in each thread
pub record IsWriteIndex (log : List ThreadLog) (order : List EventKey) (w : WriteIndex) : Type 0 where
  pub all : AreWrites log order w.all
  pub by_thread : AreThreadWrites log w.by_thread.items
  pub atomic : AreAtomicWrites log order w.atomic
  pub atomic_by_thread : AreThreadAtomicWrites log w.atomic_by_thread.items
