-- The start of the writes of a thread that can overtake a writer.
use Rattle.std.specs.Prelude.{◌≡◌, ◌≢◌, ℕ, ◌<◌, List, Some, length, map}
use Rattle.wm_event.specs.declared.event.Event.{Event}
use Rattle.wm_event.specs.declared.event.EventId.{EventId}
use Rattle.wm_event.specs.declared.event.Range.{Range}
use Rattle.wm_event.specs.declared.log.ThreadLog.{ThreadLog}
use Rattle.wm_event.specs.declared.writes.ByteWrite.{ByteWrite}
use Rattle.wm_event.specs.Event.{range_of}
use Rattle.wm_event.specs.Execution.{Execution, event_at, place}
use Rattle.wm_event.specs.HappensBefore.{HappensBefore}
use Rattle.wm_event.specs.Shape.{IsThere}
use Rattle.wm_event.specs.Writes.{id_in, thread_keys}
use Rattle.wm_rules.specs.declared.cases.OvertakingCase.{OvertakingCase}
use Rattle.wm_rules.specs.declared.cases.OvertakingCase.TheVariants.{ReadPast, WrittenOver}
use Rattle.wm_rules.specs.declared.overtaking.PastRow.{PastRow}

-- v comes after the writer w in the order, and in the third case w happens before it
abbrev pub IsPast : Execution → EventId → OvertakingCase → EventId → Type 0
IsPast x w case v = (place x w < place x v) × (case ≡ ReadPast → HappensBefore x w v)

-- the names of a thread's events that write
abbrev pub ids_in_thread : List ThreadLog → ℕ → List ByteWrite → List EventId
ids_in_thread log t writes = map (id_in (thread_keys log t)) writes

-- the names of a row's events
abbrev pub ids_of_row : PastRow → List EventId
ids_of_row row = ids_in_thread row.relation.now.log row.thread row.writes.now

-- there is a write at the index, and the writer is there
abbrev pub IsReadyPast : PastRow → ℕ → Type 0
IsReadyPast row i = (i < length row.writes.now) × IsThere row.relation.now.log row.writer

-- the range of the other write in a case: the writer's or else the read's
pub record IsRangeBy (x : Execution) (e : Event) (w : EventId) (case : OvertakingCase) (range : Range) : Type 0 where
  pub second : case ≡ WrittenOver → (f : Event) → event_at x w ≡ Some f → range ≡ range_of f
  pub others : case ≢ WrittenOver → range ≡ range_of e
