-- ECMA-262, 29.7 "Properties of Valid Executions", by a reading of "overlapping".
use Rattle.std.specs.Prelude.{◌≡◌, ◌≢◌, ◌⊎◌, ℕ, ◌+◌, List, None, Some, IsTrue, slice_get}
use Rattle.wm_standard.specs.SharedEvents.{SharedEvent, HaveEqualRanges, InRange, Reading, Reads, Writes}
use Rattle.wm_standard.specs.SharedEvents.Order.{SeqCst}
use Rattle.wm_standard.specs.CandidateExecution.{CandidateExecution, IsEvent, IsShared}
use Rattle.wm_standard.specs.Relations.{HappensBefore, IsReadsBytesFrom, ReadsFrom, SynchronizesWith}
use Rattle.wm_standard.specs.Value.{ValueOfReadEvent}

module _ {E : Type 0} (overlapping : Reading) (x : CandidateExecution E) where
  -- 29.6.4 host-synchronizes-with orders host-specific events
  abbrev pub OrdersHostEvents : Type 0
  OrdersHostEvents = (e d : E) → x.host_synchronizes_with e d → (x.shared e ≡ None) × (x.shared d ≡ None)

  -- 29.7.5 happens-before is a strict partial order
  abbrev pub IsStrict : Type 0
  IsStrict = (e : E) → HappensBefore overlapping x e e → ⊥

  -- 29.7.1 valid chosen reads
  abbrev pub HasValidChosenReads : Type 0
  HasValidChosenReads = (r : E) (f : SharedEvent) → IsShared x r f → Reads f → ValueOfReadEvent x r (x.chosen_value r)

  -- 29.7.2 coherent reads
  abbrev pub HasCoherentReads : Type 0
  HasCoherentReads = (r : E) (f : SharedEvent) → IsShared x r f → Reads f → (i : ℕ) (w : E) → slice_get (x.reads_bytes_from r) i ≡ Some w
      → (HappensBefore overlapping x r w → ⊥)
      × ((v : E) (g : SharedEvent) → IsShared x v g → Writes g → InRange g (f.byte_index + i) → HappensBefore overlapping x w v → HappensBefore overlapping x v r → ⊥)

  -- 29.7.3 tear free reads: a NoTear read reads from at most one NoTear event of its range
  abbrev pub HasTearFreeReads : Type 0
  HasTearFreeReads = (r w v : E) (f g h : SharedEvent) → IsTrue f.no_tear → ReadsFrom x r w f → IsShared x w g → IsTrue g.no_tear → HaveEqualRanges f g
      → IsShared x v h → HaveEqualRanges h g → IsTrue h.no_tear → w ≢ v → ReadsFrom x r v f → ⊥

  -- 29.7.4 the three conditions of sequentially consistent atomics, on V with the fields h between W with the fields g and R with the fields f
  pub data Overtakes (r w v : E) (f g h : SharedEvent) : Type 0 where
    synchronized : SynchronizesWith x w r → HaveEqualRanges h f → Overtakes r w v f g h
    written_over : HappensBefore overlapping x w r → HappensBefore overlapping x v r → g.order ≡ SeqCst → HaveEqualRanges g h → Overtakes r w v f g h
    read_past : HappensBefore overlapping x w r → HappensBefore overlapping x w v → f.order ≡ SeqCst → HaveEqualRanges h f → Overtakes r w v f g h

  -- only finitely many events are such
  abbrev pub IsFinite : (E → Type 0) → Type 0
  IsFinite P = (es : List E) × ((e : E) → P e → (i : ℕ) × (slice_get es i ≡ Some e))

  -- 29.7.4 a memory-order: a strict total order of all events with these properties
  pub record IsMemoryOrder (before : E → E → Type 0) : Type 0 where
    pub irreflexive : (e : E) → IsEvent x e → before e e → ⊥
    pub transitive : (e f d : E) → IsEvent x e → IsEvent x f → IsEvent x d → before e f → before f d → before e d
    pub total : (e d : E) → IsEvent x e → IsEvent x d → (e ≡ d) ⊎ (before e d ⊎ before d e)
    pub keeps_happens_before : (e d : E) → HappensBefore overlapping x e d → before e d
    pub keeps_atomics : (r w v : E) (f g h : SharedEvent) → ReadsFrom x r w f → IsShared x w g → IsShared x v h → Writes h → h.order ≡ SeqCst
        → before w v → before v r → Overtakes r w v f g h → ⊥
    -- only finitely many reads of its range are before a SeqCst write
    pub finite : (w : E) (g : SharedEvent) → IsShared x w g → Writes g → g.order ≡ SeqCst
        → IsFinite (λ r. (f : SharedEvent) × IsShared x r f × Reads f × HaveEqualRanges f g × before r w)

  -- 29.7.5 a valid execution, with this memory-order
  pub record IsValidExecution (before : E → E → Type 0) : Type 0 where
    pub reads_bytes_from : IsReadsBytesFrom x
    pub host : OrdersHostEvents
    pub strict : IsStrict
    pub chosen : HasValidChosenReads
    pub coherent : HasCoherentReads
    pub tear_free : HasTearFreeReads
    pub memory_order : IsMemoryOrder before
