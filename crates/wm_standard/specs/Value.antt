-- ECMA-262, 29.5.4 "ComposeWriteEventBytes" and 29.5.5 "ValueOfReadEvent". These call each other: the byte that a read-modify-write
-- event leaves follows from the value that it reads. What they return is the least relation, so nothing if the calls don't end.
use Rattle.std.specs.Prelude.{◌≡◌, ℕ, ◌+◌, ◌-◌, List, Some, slice_get, length}
use Rattle.wm_standard.specs.SharedEvents.{SharedEvent}
use Rattle.wm_standard.specs.SharedEvents.EventType.{WriteSharedMemory, ReadModifyWriteSharedMemory}
use Rattle.wm_standard.specs.CandidateExecution.{CandidateExecution, IsShared}

-- 29.5.5 ValueOfReadEvent(execution, R) is bytes; value_of i is that of the i-th event of reads-bytes-from(R), if that is a
-- read-modify-write event
pub data ValueOfReadEvent {E : Type 0} (x : CandidateExecution E) : E → List ℕ → Type 0 where
  composed : {r : E} {bytes : List ℕ} (f : SharedEvent) (value_of : ℕ → List ℕ) → IsShared x r f → length bytes ≡ length (x.reads_bytes_from r)
      → ((i b : ℕ) (w : E) (g : SharedEvent) → slice_get (x.reads_bytes_from r) i ≡ Some w → IsShared x w g → slice_get bytes i ≡ Some b
      → g.event_type ≡ WriteSharedMemory → slice_get g.payload (f.byte_index + i - g.byte_index) ≡ Some b)
      → ((i : ℕ) (w : E) (g : SharedEvent) → slice_get (x.reads_bytes_from r) i ≡ Some w → IsShared x w g
      → g.event_type ≡ ReadModifyWriteSharedMemory → ValueOfReadEvent x w (value_of i))
      → ((i b : ℕ) (w : E) (g : SharedEvent) → slice_get (x.reads_bytes_from r) i ≡ Some w → IsShared x w g → slice_get bytes i ≡ Some b
      → g.event_type ≡ ReadModifyWriteSharedMemory → slice_get (g.modify_op (value_of i) g.payload) (f.byte_index + i - g.byte_index) ≡ Some b)
      → ValueOfReadEvent x r bytes
