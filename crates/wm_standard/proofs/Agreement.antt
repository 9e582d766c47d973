-- The rules and ECMA-262 agree.
use Rattle.std.proofs.Common.{◌≡◌, ◌≢◌, ℕ, suc, ◌+◌, ◌-◌, ◌<◌, ◌≤◌, ◌⊎◌, List, [], ◌∷◌, true, false, map, length, get_or, slice_get, Some, IsTrue, refl, sym, ap, ◌∙◌, subst, arith, inl, inr, ⊎_elim}
use Rattle.std.specs.Prelude.{option_and_then, if◌then◌else◌}
use Rattle.std.specs.Option.{option_map, option_map_or}
use Rattle.std.proofs.lemmas.Bool.{cases_Bool, cases_eq, cases_lt, false≢true}
use Rattle.std.proofs.lemmas.Option.{same_Some, none-some, slice_get-map, slice_get_within, slice_get-get_or}
use Rattle.wm_access.specs.AccessWidth.{bytes_of}
use Rattle.wm_event.specs.declared.event.Event.{Event}
use Rattle.wm_event.specs.declared.event.EventKey.{EventKey}
use Rattle.wm_event.specs.declared.event.EventKind.TheVariants.{Update}
use Rattle.wm_event.specs.declared.event.EventId.{EventId}
use Rattle.wm_event.specs.declared.event.EventId.TheVariants.{Init, At}
use Rattle.wm_event.specs.Byte.{byte_of}
use Rattle.wm_event.specs.Event.{byte_written, kind_reads, range_of, reads, writes}
use Rattle.wm_event.specs.Execution.{Execution, byte_by, event_at, place}
use Rattle.wm_event.specs.HappensBefore.{SynchronizesWith as Synchronizes}
use Rattle.wm_event.specs.Log.{event_in}
use Rattle.wm_event.specs.LoggedRun.{LoggedRun, execution}
use Rattle.wm_event.specs.Rules.{HasRange, IsAtomicWrite, IsTearFree, IsTearFreeWriter, IsValid, KeepsCoherence, KeepsNoTearing, KeepsSequentialConsistency, KeepsWrittenValues}
use Rattle.wm_event.specs.Rules.{Overtakes as Between}
use Rattle.wm_event.specs.Rules.Overtakes.{read_past as past, synchronized as by_sync, written_over as over}
use Rattle.wm_event.specs.Shape.{IsWellShaped}
use Rattle.wm_event.specs.Witness.{writers_in}
use Rattle.wm_event.proofs.PlaceLemmas.{position_listed}
use Rattle.wm_standard.specs.SharedEvents.{HaveEqualRanges, HaveOverlappingRanges, InRange, Reads, SharedEvent, Writes}
use Rattle.wm_standard.specs.SharedEvents.EventType.{ReadModifyWriteSharedMemory, WriteSharedMemory}
use Rattle.wm_standard.specs.SharedEvents.Order.{SeqCst}
use Rattle.wm_standard.specs.CandidateExecution.{CandidateExecution, IsEvent, IsShared}
use Rattle.wm_standard.specs.Relations.{HappensBefore, IsReadsBytesFrom, ReadsFrom, SynchronizesWith}
use Rattle.wm_standard.specs.Value.{ValueOfReadEvent}
use Rattle.wm_standard.specs.Value.ValueOfReadEvent.{composed}
use Rattle.wm_standard.specs.ValidExecution.{HasValidChosenReads, IsMemoryOrder, IsValidExecution, Overtakes}
use Rattle.wm_standard.specs.ValidExecution.Overtakes.{read_past, synchronized, written_over}
use Rattle.wm_standard.specs.Transcribed.{AreOperations, Operation, bytes_from, candidate_of, order_of, shared_of, type_of, value_read, writers_read}
use Rattle.wm_standard.specs.Agreement.{AgreesWithTheStandard, Ends, ValuesEnd}
use Rattle.wm_standard.specs.Agreement.Ends.{ends}
use Rattle.wm_standard.proofs.Events.{Accesses, some_of, payload-update, payload-write, IsLogged, Stands, at-writes, atomic-order, bytes-at, equal-from, equal-turned, initial-apart, initial-atomic, initial-is, initial-reads, initial-update, length-bytes, log-writes, logged, logged-atomic, logged-equal, logged-reads, logged-writes, no-tear-from, no-tear-to, reads-from, shared-at, some-is, stands-at, type-update, writes-at, writes-from, written-is}
use Rattle.wm_standard.proofs.Events.Stands.{logged_at, made}
use Rattle.wm_standard.proofs.Orders.{before-from, before-to, reads-from-logged, some-read, synchronizes-from, synchronizes-to}

-- two ids are equal or not
pub same-id : (v w : EventId) → (v ≡ w) ⊎ (v ≢ w)
same-id Init Init = inl refl
same-id Init (At b) = inr (λ h. cc)
same-id (At a) Init = inr (λ h. cc)
same-id (At a) (At b) = ⊎_elim
    (λ (t : a.thread ≡ b.thread). ⊎_elim
    (λ (n : a.number ≡ b.number). inl (λ i. At (record { thread = t i; number = n i })))
    (λ (n : a.number ≢ b.number). inr (λ h. let k : a ≡ b = cc in n (ap (λ (k : EventKey). k.number) k)))
    (cases_eq a.number b.number))
    (λ (t : a.thread ≢ b.thread). inr (λ h. let k : a ≡ b = cc in t (ap (λ (k : EventKey). k.thread) k)))
    (cases_eq a.thread b.thread)

module _ (run : LoggedRun) (ops : EventKey → Operation) (shape : IsWellShaped run) (fitting : AreOperations run ops) (large : 8 < length run.initial) where
  abbrev x : Execution
  x = execution run

  abbrev c : CandidateExecution EventId
  c = candidate_of run ops

  -- ---- the order of the witness

  pub data Member (e : EventId) : Type 0 where
    is_init : e ≡ Init → Member e
    is_at : (key : EventKey) (f : Event) → e ≡ At key → event_in run.log key ≡ Some f → Member e

  pub member : (e : EventId) → IsEvent c e → Member e
  member e is = by (stands-at run ops shape is.0 is.2 is.1 e is.3 is.4)
    where
      by : Stands run ops shape is.0 is.2 e → Member e
      by (made p q h) = is_init h
      by (logged_at t f p there h) = is_at (record { thread = t; number = is.2 }) f h there

  one-place : (a b : EventKey) (f g : Event) → event_in run.log a ≡ Some f → event_in run.log b ≡ Some g → x.place_of a ≡ x.place_of b → a ≡ b
  one-place a b f g is_a is_b same =
      let m = shape.order.listed a (some_of (event_in run.log a) f is_a) in
      let n = shape.order.listed b (some_of (event_in run.log b) g is_b) in
      let p = position_listed run.log run.witness.order shape.order m.0 a m.1 in
      let q = position_listed run.log run.witness.order shape.order n.0 b n.1 in
      let e : m.0 ≡ n.0 = sym p ∙ same ∙ q in
      same_Some a b (sym m.1 ∙ ap (slice_get run.witness.order) e ∙ n.1)

  pub total : (e d : EventId) → Member e → Member d → (e ≡ d) ⊎ (order_of run e d ⊎ order_of run d e)
  total e d (is_init h) (is_init k) = inl (h ∙ sym k)
  total e d (is_init h) (is_at b g k is_b) =
      let p : place x e ≡ 0 = ap (place x) h in
      let q : place x d ≡ 1 + x.place_of b = ap (place x) k in
      inr (inl (omega (arith, p, q)))
  total e d (is_at a f h is_a) (is_init k) =
      let p : place x e ≡ 1 + x.place_of a = ap (place x) h in
      let q : place x d ≡ 0 = ap (place x) k in
      inr (inr (omega (arith, p, q)))
  total e d (is_at a f h is_a) (is_at b g k is_b) = ⊎_elim
      (λ (l : place x e < place x d). inr (inl l))
      (λ (l : place x d ≤ place x e). ⊎_elim
      (λ (m : place x d < place x e). inr (inr m))
      (λ (m : place x e ≤ place x d).
      let p : place x e ≡ 1 + x.place_of a = ap (place x) h in
      let q : place x d ≡ 1 + x.place_of b = ap (place x) k in
      inl (h ∙ ap At (one-place a b f g is_a is_b (omega (arith, l, m, p, q))) ∙ sym k))
      (cases_lt (place x d) (place x e)))
      (cases_lt (place x e) (place x d))

  pub in-list : (e : EventId) (f : SharedEvent) → IsShared c e f → Reads f → (i : ℕ) × (slice_get (map At run.witness.order) i ≡ Some e)
  in-list Init f is does = absurd (initial-reads run ops shape f is does)
  in-list (At key) f is does =
      let l = logged run ops shape key f is in
      let n = shape.order.listed key (some_of (event_in run.log key) l.event l.there) in
      (n.0, slice_get-map At run.witness.order n.0 ∙ ap (option_map At) n.1)

  -- how many writers a read has
  writer-count : (r : EventKey) (e : Event) → event_in run.log r ≡ Some e → IsTrue (reads e) → length (writers_in run.witness r) ≡ bytes_of e.width
  writer-count r e there does = (shape.good r e there).count ∙ ap (λ b. if b then bytes_of e.width else 0) does

  value-there : (r : EventKey) (e : Event) → event_in run.log r ≡ Some e → value_read run (At r) ≡ bytes_from e.read 0 (bytes_of e.width)
  value-there r e there = ap (λ o. option_map_or (λ (e : Event). bytes_from e.read 0 (bytes_of e.width)) o []) there

  byte-number : (value n i b : ℕ) → i < n → slice_get (bytes_from value 0 n) i ≡ Some b → byte_of value i ≡ b
  byte-number value n i b l at =
      let e : i + 0 ≡ i = omega arith in
      same_Some (byte_of value i) b (ap (λ m. Some (byte_of value m)) (sym e) ∙ sym (bytes-at value 0 n i l) ∙ at)

  number-byte : (value n i : ℕ) → i < n → slice_get (bytes_from value 0 n) i ≡ Some (byte_of value i)
  number-byte value n i l = let e : i + 0 ≡ i = omega arith in bytes-at value 0 n i l ∙ ap (λ m. Some (byte_of value m)) e

  -- the byte that a write, or an update by its operation, leaves at an address
  record Leaves (w : EventId) (g : SharedEvent) (a b : ℕ) : Type 0 where
    plain : g.event_type ≡ WriteSharedMemory → slice_get g.payload (a - g.byte_index) ≡ Some b
    modified : g.event_type ≡ ReadModifyWriteSharedMemory → slice_get (g.modify_op (value_read run w) g.payload) (a - g.byte_index) ≡ Some b

  -- what an update's operation makes of what it read is what it wrote
  operation-gives : (u : EventKey) (e : Event) → event_in run.log u ≡ Some e → e.kind ≡ Update
      → (shared_of (ops u) e).modify_op (value_read run (At u)) (shared_of (ops u) e).payload ≡ bytes_from e.written 0 (bytes_of e.width)
  operation-gives u e there update =
      ap (λ v. (ops u).modify_op v (shared_of (ops u) e).payload) (value-there u e there)
      ∙ ap ((ops u).modify_op (bytes_from e.read 0 (bytes_of e.width))) (payload-update e.kind (ops u).operand (bytes_from e.written 0 (bytes_of e.width)) update)
      ∙ fitting u e there update

  payload-has : (w : EventId) (g : SharedEvent) (a b : ℕ) → IsShared c w g → byte_by x w a ≡ Some b → Leaves w g a b
  payload-has Init g a b is_w left =
      let e : a - 0 ≡ a = omega arith in
      let here : slice_get run.initial (a - 0) ≡ Some b = ap (slice_get run.initial) e ∙ left in
      subst (λ g. Leaves Init g a b) (initial-is run ops shape g is_w) (record { plain = λ k. here; modified = λ k. absurd (cc) })
  payload-has (At u) g a b is_w left =
      let l = logged run ops shape u g is_w in
      let m = log-writes run ops shape u a (some_of (byte_by x (At u) a) b left) in
      let same : m.event ≡ l.event = same_Some m.event l.event (sym m.there ∙ l.there) in
      let within : Accesses l.event a = subst (λ e. Accesses e a) same m.within in
      let does : IsTrue (writes l.event) = subst (λ e. IsTrue (writes e)) same m.does in
      let low = within.0 in
      let high = within.1 in
      let written : byte_of l.event.written (a - l.event.address) ≡ b =
      same_Some (byte_of l.event.written (a - l.event.address)) b (sym (written-is l.event a does within) ∙ sym (ap (option_and_then (λ (e : Event). byte_written e a)) l.there) ∙ left) in
      let here : slice_get (bytes_from l.event.written 0 (bytes_of l.event.width)) (a - l.event.address) ≡ Some b =
      number-byte l.event.written (bytes_of l.event.width) (a - l.event.address) (omega (arith, low, high)) ∙ ap Some written in
      subst (λ g. Leaves (At u) g a b) l.fields (record {
        plain = λ k. ap (λ bytes. slice_get bytes (a - l.event.address)) (payload-write l.event.kind (ops u).operand (bytes_from l.event.written 0 (bytes_of l.event.width)) k) ∙ here;
        modified = λ k. ap (λ bytes. slice_get bytes (a - l.event.address)) (operation-gives u l.event l.there (type-update l.event.kind k)) ∙ here;
      })

  module _ (valid : IsValid x) where
    -- ---- from the rules to the standard

    value-step : (r : EventKey) (i : ℕ) (w : EventId) (g : SharedEvent) → slice_get (writers_in run.witness r) i ≡ Some w → IsShared c w g → g.event_type ≡ ReadModifyWriteSharedMemory
        → ((u : EventKey) (f : Event) → slice_get (writers_in run.witness r) i ≡ Some (At u) → event_in run.log u ≡ Some f → f.kind ≡ Update → ValueOfReadEvent c (At u) (bytes_from f.read 0 (bytes_of f.width)))
        → ValueOfReadEvent c w (option_map_or (value_read run) (slice_get (writers_in run.witness r) i) [])
    value-step r i Init g at is_w kind again = absurd (initial-update run ops shape g is_w kind)
    value-step r i (At u) g at is_w kind again =
        let l = logged run ops shape u g is_w in
        let update : l.event.kind ≡ Update = type-update l.event.kind (ap (λ (f : SharedEvent). f.event_type) l.fields ∙ kind) in
        let same : option_map_or (value_read run) (slice_get (writers_in run.witness r) i) [] ≡ bytes_from l.event.read 0 (bytes_of l.event.width) =
        ap (λ o. option_map_or (value_read run) o []) at ∙ value-there u l.event l.there in
        subst (ValueOfReadEvent c (At u)) (sym same) (again u l.event at l.there update)

    byte-left : (r : EventKey) (e : Event) (i b : ℕ) (w : EventId) (g : SharedEvent) → event_in run.log r ≡ Some e → slice_get (writers_in run.witness r) i ≡ Some w → IsShared c w g
        → slice_get (bytes_from e.read 0 (bytes_of e.width)) i ≡ Some b → Leaves w g (e.address + i) b
    byte-left r e i b w g there at is_w at_b =
        let within = (some-read run ops shape large r e i w there at).1 in
        let is : byte_of e.read i ≡ b = byte-number e.read (bytes_of e.width) i b within at_b in
        payload-has w g (e.address + i) b is_w ((valid.keeps_written_values r e i w there at).1 ∙ ap Some is)

    value-of : {r : EventKey} → Ends x r → (e : Event) → event_in run.log r ≡ Some e → IsTrue (reads e) → ValueOfReadEvent c (At r) (bytes_from e.read 0 (bytes_of e.width))
    value-of {r} (ends next) e there does = composed (shared_of (ops r) e) (λ i. option_map_or (value_read run) (slice_get (writers_in run.witness r) i) []) (shared-at run ops shape r e there)
        (length-bytes e.read 0 (bytes_of e.width) ∙ sym (writer-count r e there does))
        (λ i b w g at is_w at_b kind. (byte-left r e i b w g there at is_w at_b).plain kind)
        (λ i w g at is_w kind. value-step r i w g at is_w kind (λ u f at_u is_u update. value-of (next i u f at_u is_u update) f is_u (ap kind_reads update)))
        (λ i b w g at is_w at_b kind.
        let same : option_map_or (value_read run) (slice_get (writers_in run.witness r) i) [] ≡ value_read run w = ap (λ o. option_map_or (value_read run) o []) at in
        subst (λ v. slice_get (g.modify_op v g.payload) (e.address + i - g.byte_index) ≡ Some b) (sym same) ((byte-left r e i b w g there at is_w at_b).modified kind))

    module _ (values : ValuesEnd x) where
      chosen : (r : EventId) (f : SharedEvent) → IsShared c r f → Reads f → ValueOfReadEvent c r (value_read run r)
      chosen Init f is does = absurd (initial-reads run ops shape f is does)
      chosen (At r) f is does =
          let l = logged run ops shape r f is in
          let v = value-of (values r (some_of (event_in run.log r) l.event l.there)) l.event l.there (logged-reads run ops shape r f l does) in
          subst (ValueOfReadEvent c (At r)) (sym (value-there r l.event l.there)) v

    size : (r : EventId) (f : SharedEvent) → IsShared c r f → Reads f → length (writers_read run r) ≡ f.element_size
    size Init f is does = absurd (initial-reads run ops shape f is does)
    size (At r) f is does = let l = logged run ops shape r f is in writer-count r l.event l.there (logged-reads run ops shape r f l does) ∙ ap (λ (f : SharedEvent). f.element_size) l.fields

    writers : (r : EventId) (f : SharedEvent) → IsShared c r f → Reads f → (i : ℕ) (w : EventId) → slice_get (writers_read run r) i ≡ Some w
        → (g : SharedEvent) × IsShared c w g × Writes g × InRange g (f.byte_index + i)
    writers Init f is does i w at = absurd (initial-reads run ops shape f is does)
    writers (At r) f is does i w at =
        let l = logged run ops shape r f is in
        let v = valid.keeps_written_values r l.event i w l.there at in
        let q = writes-at run ops shape w (l.event.address + i) (some_of (byte_by x w (l.event.address + i)) (byte_of l.event.read i) v.1) in
        (q.fields, q.shared, q.does, subst (λ (f : SharedEvent). InRange q.fields (f.byte_index + i)) l.fields q.within)

    others : (r : EventId) (f : SharedEvent) → IsShared c r f → Reads f → (i : ℕ) (w : EventId) → slice_get (writers_read run r) i ≡ Some w → w ≢ r
    others Init f is does i w at = absurd (initial-reads run ops shape f is does)
    others (At r) f is does i w at = let l = logged run ops shape r f is in (valid.keeps_written_values r l.event i w l.there at).0

    coherent : (r : EventId) (f : SharedEvent) → IsShared c r f → Reads f → (i : ℕ) (w : EventId) → slice_get (writers_read run r) i ≡ Some w
        → (HappensBefore HaveOverlappingRanges c r w → ⊥)
        × ((v : EventId) (g : SharedEvent) → IsShared c v g → Writes g → InRange g (f.byte_index + i) → HappensBefore HaveOverlappingRanges c w v → HappensBefore HaveOverlappingRanges c v r → ⊥)
    coherent Init f is does i w at = absurd (initial-reads run ops shape f is does)
    coherent (At r) f is does i w at =
        let l = logged run ops shape r f is in
        let k = valid.keeps_coherence r l.event i w l.there at in (
          λ h. k.0 (before-to run ops shape large h),
          λ v g is_v writes_v within h j. k.1 v
              (at-writes run ops shape v g (l.event.address + i) is_v writes_v (subst (λ (f : SharedEvent). InRange g (f.byte_index + i)) (sym l.fields) within))
              (before-to run ops shape large h) (before-to run ops shape large j),
        )

    no-tear : (r : EventKey) (f : SharedEvent) (l : IsLogged run ops shape r f) → IsTrue f.no_tear → IsTearFree l.event
    no-tear r f l h = no-tear-to l.event (ap (λ (f : SharedEvent). f.no_tear) l.fields ∙ h)

    tear-free : (r w v : EventId) (f g h : SharedEvent) → IsTrue f.no_tear → ReadsFrom c r w f → IsShared c w g → IsTrue g.no_tear → HaveEqualRanges f g
        → IsShared c v h → HaveEqualRanges h g → IsTrue h.no_tear → w ≢ v → ReadsFrom c r v f → ⊥
    tear-free Init w v f g h f_whole from_w is_w g_whole equal is_v equal_v h_whole apart from_v = initial-reads run ops shape f from_w.reader from_w.reads
    tear-free (At r) Init v f g h f_whole from_w is_w g_whole equal is_v equal_v h_whole apart from_v = initial-apart run ops shape large r g f is_w from_w.reader (equal-turned f g equal)
    tear-free (At r) (At a) Init f g h f_whole from_w is_w g_whole equal is_v equal_v h_whole apart from_v = initial-apart run ops shape large a h g is_v is_w equal_v
    tear-free (At r) (At a) (At b) f g h f_whole from_w is_w g_whole equal is_v equal_v h_whole apart from_v =
        let l = logged run ops shape r f from_w.reader in
        let m = logged run ops shape a g is_w in
        let n = logged run ops shape b h is_v in
        let one : range_of m.event ≡ range_of l.event = logged-equal run ops shape a r g f m l (equal-turned f g equal) in
        let two : range_of n.event ≡ range_of l.event = logged-equal run ops shape b a h g n m equal_v ∙ one in
        apart (valid.keeps_no_tearing r l.event l.there (no-tear r f l f_whole) (At a) (At b)
        ((from_w.index, from_w.contains), (m.event, m.there, no-tear a g m g_whole, one))
        ((from_v.index, from_v.contains), (n.event, n.there, no-tear b h n h_whole, two)))

    atomics-by : (r : EventKey) (w : EventId) (u : EventKey) (f g h : SharedEvent) → ReadsFrom c (At r) w f → IsShared c w g → (l : IsLogged run ops shape r f) (m : IsLogged run ops shape u h) → IsAtomicWrite x (At u)
        → order_of run w (At u) → order_of run (At u) (At r) → Overtakes HaveOverlappingRanges c (At r) w (At u) f g h → ⊥
    atomics-by r w u f g h from is_w l m writing before after (synchronized s equal) =
        let t = synchronizes-to run ops shape large s in
        let b : t.1 ≡ r = let e : At r ≡ At t.1 = t.3 in cc in
        valid.keeps_sequential_consistency r l.event from.index w l.there from.contains (At u) 1 writing before after
        (by_sync refl t.0 t.2 (subst (Synchronizes x t.0) b t.4) (m.event, m.there, logged-equal run ops shape u r h f m l equal))
    atomics-by r Init u f g h from is_w l m writing before after (written_over first second g_atomic equal) = initial-atomic run ops shape g is_w g_atomic
    atomics-by r (At a) u f g h from is_w l m writing before after (written_over first second g_atomic equal) =
        let n = logged run ops shape a g is_w in
        valid.keeps_sequential_consistency r l.event from.index (At a) l.there from.contains (At u) 2 writing before after
        (over refl n.event n.there (logged-atomic run ops shape a g n g_atomic) (before-to run ops shape large first) (before-to run ops shape large second)
        (m.event, m.there, logged-equal run ops shape u a h g m n (equal-turned g h equal)))
    atomics-by r w u f g h from is_w l m writing before after (read_past first second f_atomic equal) =
        valid.keeps_sequential_consistency r l.event from.index w l.there from.contains (At u) 3 writing before after
        (past refl (logged-atomic run ops shape r f l f_atomic) (before-to run ops shape large first) (before-to run ops shape large second) (m.event, m.there, logged-equal run ops shape u r h f m l equal))

    atomics : (r w v : EventId) (f g h : SharedEvent) → ReadsFrom c r w f → IsShared c w g → IsShared c v h → Writes h → h.order ≡ SeqCst
        → order_of run w v → order_of run v r → Overtakes HaveOverlappingRanges c r w v f g h → ⊥
    atomics Init w v f g h from is_w is_v does atomic before after o = initial-reads run ops shape f from.reader from.reads
    atomics (At r) w Init f g h from is_w is_v does atomic before after o = initial-atomic run ops shape h is_v atomic
    atomics (At r) w (At u) f g h from is_w is_v does atomic before after o =
        let l = logged run ops shape r f from.reader in
        let m = logged run ops shape u h is_v in
        atomics-by r w u f g h from is_w l m (m.event, m.there, logged-atomic run ops shape u h m atomic, logged-writes run ops shape u h m does) before after o

    memory-order : IsMemoryOrder HaveOverlappingRanges c (order_of run)
    memory-order = record {
      irreflexive = λ e is l. omega (arith, l);
      transitive = λ e f d is_e is_f is_d l m. omega (arith, l, m);
      total = λ e d is_e is_d. total e d (member e is_e) (member d is_d);
      keeps_happens_before = λ e d h. valid.keeps_order e d (before-to run ops shape large h);
      keeps_atomics = atomics;
      finite = λ w g is does atomic. (map At run.witness.order, λ e p. in-list e p.0 p.1 p.2);
    }

    pub to-standard : ValuesEnd x → IsValidExecution HaveOverlappingRanges c (order_of run)
    to-standard values = record {
      reads_bytes_from = record { size = size; writers = writers; others = others };
      host = λ e d h. absurd h;
      strict = λ e h. let l = valid.keeps_order e e (before-to run ops shape large h) in omega (arith, l);
      chosen = chosen values;
      coherent = coherent;
      tear_free = tear-free;
      memory_order = memory-order;
    }

  -- ---- from the standard to the rules

  -- what ValueOfReadEvent says
  record Composed (z : EventId) (bytes : List ℕ) (f : SharedEvent) : Type 0 where
    value_of : ℕ → List ℕ
    size : length bytes ≡ length (writers_read run z)
    plain : (i b : ℕ) (w : EventId) (g : SharedEvent) → slice_get (writers_read run z) i ≡ Some w → IsShared c w g → slice_get bytes i ≡ Some b
        → g.event_type ≡ WriteSharedMemory → slice_get g.payload (f.byte_index + i - g.byte_index) ≡ Some b
    inner : (i : ℕ) (w : EventId) (g : SharedEvent) → slice_get (writers_read run z) i ≡ Some w → IsShared c w g → g.event_type ≡ ReadModifyWriteSharedMemory → ValueOfReadEvent c w (value_of i)
    modified : (i b : ℕ) (w : EventId) (g : SharedEvent) → slice_get (writers_read run z) i ≡ Some w → IsShared c w g → slice_get bytes i ≡ Some b
        → g.event_type ≡ ReadModifyWriteSharedMemory → slice_get (g.modify_op (value_of i) g.payload) (f.byte_index + i - g.byte_index) ≡ Some b

  composition : {z : EventId} {bytes : List ℕ} → ValueOfReadEvent c z bytes → (f : SharedEvent) → IsShared c z f → Composed z bytes f
  composition {z} {bytes} (composed f' value_of is' size plain inner modified) f is =
      let same : f' ≡ f = same_Some f' f (sym is'.fields ∙ is.fields) in
      record {
        value_of = value_of;
        size = size;
        plain = λ i b w g at is_w at_b k. subst (λ (f : SharedEvent). slice_get g.payload (f.byte_index + i - g.byte_index) ≡ Some b) same (plain i b w g at is_w at_b k);
        inner = inner;
        modified = λ i b w g at is_w at_b k. subst (λ (f : SharedEvent). slice_get (g.modify_op (value_of i) g.payload) (f.byte_index + i - g.byte_index) ≡ Some b) same (modified i b w g at is_w at_b k);
      }

  -- lists of one length whose items are equal
  same-lists : (xs ys : List ℕ) → length xs ≡ length ys → ((i a b : ℕ) → slice_get xs i ≡ Some a → slice_get ys i ≡ Some b → a ≡ b) → xs ≡ ys
  same-lists [] [] size each = refl
  same-lists [] (b ∷ ys) size each = absurd (omega (arith, size))
  same-lists (a ∷ xs) [] size each = absurd (omega (arith, size))
  same-lists (a ∷ xs) (b ∷ ys) size each =
      let first : a ≡ b = each 0 a b refl refl in
      let rest : xs ≡ ys = same-lists xs ys (omega (arith, size)) (λ i. each (suc i)) in
      λ i. first i ∷ rest i

  reads-of-update : (g : SharedEvent) → g.event_type ≡ ReadModifyWriteSharedMemory → Reads g
  reads-of-update g k = inr k

  module _ (from : IsReadsBytesFrom c) where
    one-byte : (z : EventId) (bytes bytes' : List ℕ) (f : SharedEvent) → IsShared c z f → Reads f → (p : Composed z bytes f) (q : Composed z bytes' f)
        → ((i : ℕ) (w : EventId) (g : SharedEvent) → slice_get (writers_read run z) i ≡ Some w → IsShared c w g → g.event_type ≡ ReadModifyWriteSharedMemory → p.value_of i ≡ q.value_of i)
        → (i a b : ℕ) (w : EventId) → slice_get (writers_read run z) i ≡ Some w → slice_get bytes i ≡ Some a → slice_get bytes' i ≡ Some b → a ≡ b
    one-byte z bytes bytes' f is does p q again i a b w at at_a at_b =
        let s = from.writers z f is does i w at in
        let g = s.0 in
        ⊎_elim
        (λ (k : g.event_type ≡ WriteSharedMemory). same_Some a b (sym (p.plain i a w g at s.1 at_a k) ∙ q.plain i b w g at s.1 at_b k))
        (λ (k : g.event_type ≡ ReadModifyWriteSharedMemory).
        let v : p.value_of i ≡ q.value_of i = again i w g at s.1 k in
        same_Some a b (sym (p.modified i a w g at s.1 at_a k) ∙ ap (λ v. slice_get (g.modify_op v g.payload) (f.byte_index + i - g.byte_index)) v ∙ q.modified i b w g at s.1 at_b k))
        s.2

    bytes-same : (z : EventId) (bytes bytes' : List ℕ) (f : SharedEvent) → IsShared c z f → Reads f → (p : Composed z bytes f) (q : Composed z bytes' f)
        → ((i : ℕ) (w : EventId) (g : SharedEvent) → slice_get (writers_read run z) i ≡ Some w → IsShared c w g → g.event_type ≡ ReadModifyWriteSharedMemory → p.value_of i ≡ q.value_of i)
        → bytes ≡ bytes'
    bytes-same z bytes bytes' f is does p q again = same-lists bytes bytes' (p.size ∙ sym q.size) (λ i a b at_a at_b.
        let inside = slice_get_within bytes i a at_a in
        let size = p.size in
        let w = slice_get-get_or (writers_read run z) i Init (omega (arith, inside, size)) in
        one-byte z bytes bytes' f is does p q again i a b (get_or (writers_read run z) i Init) w at_a at_b)

    -- an event has one value
    one-value : {z : EventId} {bytes : List ℕ} → ValueOfReadEvent c z bytes → (f : SharedEvent) → IsShared c z f → Reads f → (bytes' : List ℕ) → ValueOfReadEvent c z bytes' → bytes ≡ bytes'
    unfolding composition
    one-value {z} {bytes} (composed f' value_of is' count plain inner modified) f is does bytes' v =
        let p = composition (composed f' value_of is' count plain inner modified) f is in
        let q = composition v f is in
        bytes-same z bytes bytes' f is does p q (λ i w g at is_w k. one-value (inner i w g at is_w k) g is_w (reads-of-update g k) (q.value_of i) (q.inner i w g at is_w k))

  -- what a writer leaves, by the standard's account of its bytes
  left-by : (w : EventId) (g : SharedEvent) (a b : ℕ) → IsShared c w g → Writes g → InRange g a → Leaves w g a b → byte_by x w a ≡ Some b
  left-by Init g a b is_w does within left =
      let e : a ≡ a - 0 = omega arith in
      let k : g.event_type ≡ WriteSharedMemory = ap (λ (g : SharedEvent). g.event_type) (sym (initial-is run ops shape g is_w)) in
      ap (slice_get run.initial) e ∙ subst (λ (g : SharedEvent). slice_get g.payload (a - g.byte_index) ≡ Some b) (sym (initial-is run ops shape g is_w)) (left.plain k)
  left-by (At u) g a b is_w does within left =
      let l = logged run ops shape u g is_w in
      let inside : Accesses l.event a = subst (λ (g : SharedEvent). InRange g a) (sym l.fields) within in
      let low = inside.0 in
      let high = inside.1 in
      let mine : Leaves (At u) (shared_of (ops u) l.event) a b = subst (λ (g : SharedEvent). Leaves (At u) g a b) (sym l.fields) left in
      let sort : Writes (shared_of (ops u) l.event) = subst Writes (sym l.fields) does in
      let here : slice_get (bytes_from l.event.written 0 (bytes_of l.event.width)) (a - l.event.address) ≡ Some b = ⊎_elim
      (λ (k : type_of l.event.kind ≡ WriteSharedMemory).
      sym (ap (λ bytes. slice_get bytes (a - l.event.address)) (payload-write l.event.kind (ops u).operand (bytes_from l.event.written 0 (bytes_of l.event.width)) k)) ∙ mine.plain k)
      (λ (k : type_of l.event.kind ≡ ReadModifyWriteSharedMemory).
      sym (ap (λ bytes. slice_get bytes (a - l.event.address)) (operation-gives u l.event l.there (type-update l.event.kind k))) ∙ mine.modified k)
      sort in
      let is : byte_of l.event.written (a - l.event.address) ≡ b = byte-number l.event.written (bytes_of l.event.width) (a - l.event.address) b (omega (arith, low, high)) here in
      ap (option_and_then (λ (e : Event). byte_written e a)) l.there ∙ written-is l.event a (logged-writes run ops shape u g l does) inside ∙ ap Some is

  ends-of : {z : EventId} {bytes : List ℕ} → ValueOfReadEvent c z bytes → (r : EventKey) → z ≡ At r → Ends x r
  ends-of {z} {bytes} (composed f value_of is size plain inner modified) r same =
      ends (λ k u g at there update. ends-of (inner k (At u) (shared_of (ops u) g) (subst (λ z. slice_get (writers_read run z) k ≡ Some (At u)) (sym same) at) (shared-at run ops shape u g there) (ap type_of update)) u refl)

  module _ (bytes_from : IsReadsBytesFrom c) (chosen_reads : HasValidChosenReads HaveOverlappingRanges c) where
    pub written-values : KeepsWrittenValues x
    written-values r e k w there at =
        let does = some-read run ops shape large r e k w there at in
        let is = shared-at run ops shape r e there in
        let reads_r = reads-from (ops r) e does.0 in
        let q = bytes_from.writers (At r) (shared_of (ops r) e) is reads_r k w at in
        let v = chosen_reads (At r) (shared_of (ops r) e) is reads_r in
        let at_b : slice_get (value_read run (At r)) k ≡ Some (byte_of e.read k) = ap (λ bytes. slice_get bytes k) (value-there r e there) ∙ number-byte e.read (bytes_of e.width) k does.1 in (
          bytes_from.others (At r) (shared_of (ops r) e) is reads_r k w at,
          left-by w q.0 (e.address + k) (byte_of e.read k) q.1 q.2 q.3 (leaves v at_b q.0 q.1),
        )
      where
        leaves : ValueOfReadEvent c (At r) (value_read run (At r)) → slice_get (value_read run (At r)) k ≡ Some (byte_of e.read k) → (g : SharedEvent) → IsShared c w g → Leaves w g (e.address + k) (byte_of e.read k)
        leaves v at_b g is_w =
            let p = composition v (shared_of (ops r) e) (shared-at run ops shape r e there) in
            record {
              plain = λ kind. p.plain k (byte_of e.read k) w g at is_w at_b kind;
              modified = λ kind.
                  let same : p.value_of k ≡ value_read run w = one-value bytes_from (p.inner k w g at is_w kind) g is_w (reads-of-update g kind) (value_read run w) (chosen_reads w g is_w (reads-of-update g kind)) in
                  subst (λ v. slice_get (g.modify_op v g.payload) (e.address + k - g.byte_index) ≡ Some (byte_of e.read k)) same (p.modified k (byte_of e.read k) w g at is_w at_b kind);
            }

    pub values-end : ValuesEnd x
    values-end r here = by (some-is (event_in run.log r) here)
      where
        by : (e : Event) × (event_in run.log r ≡ Some e) → Ends x r
        by e = ⊎_elim
            (λ (does : reads e.0 ≡ true). ends-of (chosen_reads (At r) (shared_of (ops r) e.0) (shared-at run ops shape r e.0 e.1) (reads-from (ops r) e.0 does)) r refl)
            (λ (not : reads e.0 ≡ false). ends (λ k u g at there update. absurd (false≢true (sym not ∙ (some-read run ops shape large r e.0 k (At u) e.1 at).0))))
            (cases_Bool (reads e.0))

  module _ (std : IsValidExecution HaveOverlappingRanges c (order_of run)) where
    keeps-coherence : KeepsCoherence x
    keeps-coherence r e k w there at =
        let does = some-read run ops shape large r e k w there at in
        let p = std.coherent (At r) (shared_of (ops r) e) (shared-at run ops shape r e there) (reads-from (ops r) e does.0) k w at in (
          λ h. p.0 (before-from run ops shape large (At r) w h),
          λ v writes_v h j. let q = writes-at run ops shape v (e.address + k) writes_v in
              p.1 v q.fields q.shared q.does q.within (before-from run ops shape large w v h) (before-from run ops shape large v (At r) j),
        )

    keeps-no-tearing : KeepsNoTearing x
    keeps-no-tearing r e there whole v w is_v is_w = ⊎_elim (λ (same : v ≡ w). same) (λ (apart : v ≢ w). absurd (by v w is_v is_w apart)) (same-id v w)
      where
        by : (v w : EventId) → IsTearFreeWriter x r e v → IsTearFreeWriter x r e w → v ≢ w → ⊥
        by Init w is_v is_w apart = none-some is_v.1.0 is_v.1.1
        by (At a) Init is_v is_w apart = none-some is_w.1.0 is_w.1.1
        by (At a) (At b) is_v is_w apart =
            let m = is_v.1 in
            let n = is_w.1 in
            let does = some-read run ops shape large r e is_v.0.0 (At a) there is_v.0.1 in
            std.tear_free (At r) (At a) (At b) (shared_of (ops r) e) (shared_of (ops a) m.0) (shared_of (ops b) n.0) (no-tear-from e whole)
            (reads-from-logged run ops shape large r e is_v.0.0 (At a) there is_v.0.1 does.0) (shared-at run ops shape a m.0 m.1) (no-tear-from m.0 m.2) (equal-from (ops r) (ops a) e m.0 (sym m.3))
            (shared-at run ops shape b n.0 n.1) (equal-from (ops b) (ops a) n.0 m.0 (n.3 ∙ sym m.3)) (no-tear-from n.0 n.2) apart
            (reads-from-logged run ops shape large r e is_w.0.0 (At b) there is_w.0.1 does.0)

    keeps-atomics : KeepsSequentialConsistency x
    keeps-atomics r e k w there at v c writing before after o =
        let does = some-read run ops shape large r e k w there at in
        let q = std.reads_bytes_from.writers (At r) (shared_of (ops r) e) (shared-at run ops shape r e there) (reads-from (ops r) e does.0) k w at in
        by v writing before after (reads-from-logged run ops shape large r e k w there at does.0) q.0 q.1 o
      where
        by : (v : EventId) → IsAtomicWrite x v → place x w < place x v → place x v < place x (At r) → ReadsFrom (candidate_of run ops) (At r) w (shared_of (ops r) e) → (g : SharedEvent) → IsShared (candidate_of run ops) w g
            → Between x w v r e c → ⊥
        by Init writing before after from g is_w o = none-some writing.0 writing.1
        by (At u) writing before after from g is_w o = std.memory_order.keeps_atomics (At r) w (At u) (shared_of (ops r) e) g (shared_of (ops u) writing.0) from is_w
            (shared-at run ops shape u writing.0 writing.1) (writes-from (ops u) writing.0 writing.3) (atomic-order (ops u) writing.0 writing.2) before after (which o)
          where
            ranged : (f : Event) → HasRange x (At u) f → range_of writing.0 ≡ range_of f
            ranged f h = ap range_of (same_Some writing.0 h.0 (sym writing.1 ∙ h.1)) ∙ h.2

            atomic-writer : (w : EventId) (f : Event) (g : SharedEvent) → event_at x w ≡ Some f → IsShared (candidate_of run ops) w g → (o : Operation) × (shared_of o f ≡ g)
            atomic-writer Init f g at_w is_w = absurd (none-some f at_w)
            atomic-writer (At a) f g at_w is_w = let l = logged run ops shape a g is_w in (ops a, ap (shared_of (ops a)) (same_Some f l.event (sym at_w ∙ l.there)) ∙ l.fields)

            which : Between x w (At u) r e c → Overtakes HaveOverlappingRanges (candidate_of run ops) (At r) w (At u) (shared_of (ops r) e) g (shared_of (ops u) writing.0)
            which (by_sync n t is s h) = synchronized (subst (λ w. SynchronizesWith (candidate_of run ops) w (At r)) (sym is) (synchronizes-from run ops shape large t r s)) (equal-from (ops u) (ops r) writing.0 e (ranged e h))
            which (over n f at_w atomic first second h) =
                let same = atomic-writer w f g at_w is_w in
                written_over (before-from run ops shape large w (At r) first) (before-from run ops shape large (At u) (At r) second)
                (ap (λ (g : SharedEvent). g.order) (sym same.1) ∙ atomic-order same.0 f atomic)
                (subst (λ (g : SharedEvent). HaveEqualRanges g (shared_of (ops u) writing.0)) same.1 (equal-from same.0 (ops u) f writing.0 (sym (ranged f h))))
            which (past n atomic first second h) =
                read_past (before-from run ops shape large w (At r) first) (before-from run ops shape large w (At u) second) (atomic-order (ops r) e atomic) (equal-from (ops u) (ops r) writing.0 e (ranged e h))

    pub from-standard : IsValid x × ValuesEnd x
    from-standard = (
      record {
        keeps_written_values = written-values std.reads_bytes_from std.chosen;
        keeps_order = λ a b h. std.memory_order.keeps_happens_before a b (before-from run ops shape large a b h);
        keeps_coherence = keeps-coherence;
        keeps_no_tearing = keeps-no-tearing;
        keeps_sequential_consistency = keeps-atomics;
      },
      values-end std.reads_bytes_from std.chosen,
    )

pub agrees-with-the-standard : AgreesWithTheStandard
agrees-with-the-standard run ops shape fitting large = (λ both. to-standard run ops shape fitting large both.0 both.1, λ std. from-standard run ops shape fitting large std)
