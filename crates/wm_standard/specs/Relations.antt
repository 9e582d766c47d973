-- ECMA-262, 29.6 "Relations of Candidate Executions".
use Rattle.std.specs.Prelude.{◌≡◌, ◌≢◌, ℕ, ◌+◌, ◌<◌, Some, slice_get, length}
use Rattle.wm_standard.specs.SharedEvents.{SharedEvent, HaveEqualRanges, InRange, Reading, Reads, Writes}
use Rattle.wm_standard.specs.SharedEvents.Order.{Init, SeqCst}
use Rattle.wm_standard.specs.CandidateExecution.{AgentEvents, CandidateExecution, IsShared}

-- 29.6.1 is-agent-order-before: some [[EventList]] has both, e before d
pub record AgentOrder {E : Type 0} (x : CandidateExecution E) (e d : E) : Type 0 where
  pub agent : ℕ
  pub record_of : AgentEvents E
  pub is_record : slice_get x.events_records agent ≡ Some record_of
  pub first : ℕ
  pub second : ℕ
  pub is_first : slice_get record_of.event_list first ≡ Some e
  pub is_second : slice_get record_of.event_list second ≡ Some d
  pub before : first < second

-- 29.6.2 reads-bytes-from gives each read one write for each of its bytes, in order; byte i of the read is in the range of its
-- write, and no read is among its own writes
pub record IsReadsBytesFrom {E : Type 0} (x : CandidateExecution E) : Type 0 where
  pub size : (r : E) (f : SharedEvent) → IsShared x r f → Reads f → length (x.reads_bytes_from r) ≡ f.element_size
  pub writers : (r : E) (f : SharedEvent) → IsShared x r f → Reads f → (i : ℕ) (w : E) → slice_get (x.reads_bytes_from r) i ≡ Some w
      → (g : SharedEvent) × IsShared x w g × Writes g × InRange g (f.byte_index + i)
  pub others : (r : E) (f : SharedEvent) → IsShared x r f → Reads f → (i : ℕ) (w : E) → slice_get (x.reads_bytes_from r) i ≡ Some w → w ≢ r

-- 29.6.3 r, which has the fields f, reads-from w
pub record ReadsFrom {E : Type 0} (x : CandidateExecution E) (r w : E) (f : SharedEvent) : Type 0 where
  pub reader : IsShared x r f
  pub reads : Reads f
  pub index : ℕ
  pub contains : slice_get (x.reads_bytes_from r) index ≡ Some w

-- 29.6.5 synchronizes-with. host-synchronizes-with (29.6.4) is a field of the candidate execution
pub data SynchronizesWith {E : Type 0} (x : CandidateExecution E) : E → E → Type 0 where
  -- a SeqCst read from a SeqCst write of an equal range
  of_memory : {w r : E} (g f : SharedEvent) → ReadsFrom x r w f → IsShared x w g → f.order ≡ SeqCst → g.order ≡ SeqCst → HaveEqualRanges f g
      → SynchronizesWith x w r
  -- a pair that some agent's record lists (wait and notify)
  of_agent : {s t : E} (n i : ℕ) (r : AgentEvents E) → slice_get x.events_records n ≡ Some r → slice_get r.agent_synchronizes_with i ≡ Some (s, t)
      → SynchronizesWith x s t
  of_host : {e d : E} → x.host_synchronizes_with e d → SynchronizesWith x e d

-- 29.6.6 happens-before, the least relation, by a reading of "overlapping"
pub data HappensBefore {E : Type 0} (overlapping : Reading) (x : CandidateExecution E) : E → E → Type 0 where
  in_agent : {e d : E} → AgentOrder x e d → HappensBefore overlapping x e d
  synchronized : {e d : E} → SynchronizesWith x e d → HappensBefore overlapping x e d
  -- from an Init event to each other event whose range overlaps its own
  initial : {e d : E} (f g : SharedEvent) → IsShared x e f → IsShared x d g → f.order ≡ Init → e ≢ d → overlapping f g
      → HappensBefore overlapping x e d
  through : {e f d : E} → HappensBefore overlapping x e f → HappensBefore overlapping x f d → HappensBefore overlapping x e d
