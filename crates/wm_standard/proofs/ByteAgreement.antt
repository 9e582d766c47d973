-- The rules and ECMA-262 agree with an Init event for each byte.
use Rattle.std.proofs.Common.{◌≡◌, ◌≢◌, ℕ, ◌+◌, ◌-◌, ◌<◌, ◌≤◌, ◌⊎◌, List, [], ◌∷◌, get_or, length, map, slice_get, Some, IsTrue, refl, sym, ap, ◌∙◌, subst, arith, inl, inr, ⊎_elim}
use Rattle.std.specs.Option.{option_map}
use Rattle.std.proofs.lemmas.Bool.{cases_lt}
use Rattle.std.proofs.lemmas.Option.{same_Some, none-some, slice_get-map, slice_get_within, slice_get-get_or}
use Rattle.wm_event.specs.declared.event.Event.{Event}
use Rattle.wm_event.specs.declared.event.EventKey.{EventKey}
use Rattle.wm_event.specs.declared.event.EventId.{EventId}
use Rattle.wm_event.specs.declared.event.EventId.TheVariants.{Init, At}
use Rattle.wm_event.specs.Event.{is_atomic, range_of}
use Rattle.wm_event.specs.Execution.{Execution, event_at, place}
use Rattle.wm_event.specs.HappensBefore.{HappensBefore as Before, SynchronizesWith as Synchronizes}
use Rattle.wm_event.specs.Log.{event_in}
use Rattle.wm_event.specs.LoggedRun.{LoggedRun, execution}
use Rattle.wm_event.specs.Rules.{HasRange, IsAtomicWrite, IsTearFreeWriter, IsValid, KeepsCoherence, KeepsNoTearing, KeepsOrder, KeepsSequentialConsistency, Writes as WritesByte}
use Rattle.wm_event.specs.Rules.{Overtakes as Between}
use Rattle.wm_event.specs.Rules.Overtakes.{read_past as past, synchronized as by_sync, written_over as over}
use Rattle.wm_event.specs.Shape.{IsWellShaped}
use Rattle.wm_event.specs.Witness.{writers_in}
use Rattle.wm_standard.specs.SharedEvents.{HaveCommonBytes, HaveEqualRanges, HaveOverlappingRanges, InRange, Reads, SharedEvent, Writes}
use Rattle.wm_standard.specs.SharedEvents.EventType.{ReadModifyWriteSharedMemory, WriteSharedMemory}
use Rattle.wm_standard.specs.SharedEvents.Order.{SeqCst}
use Rattle.wm_standard.specs.CandidateExecution.{CandidateExecution, IsEvent, IsShared}
use Rattle.wm_standard.specs.Relations.{HappensBefore, IsReadsBytesFrom, ReadsFrom, SynchronizesWith}
use Rattle.wm_standard.specs.Value.{ValueOfReadEvent}
use Rattle.wm_standard.specs.Value.ValueOfReadEvent.{composed}
use Rattle.wm_standard.specs.ValidExecution.{HasValidChosenReads, IsMemoryOrder, IsValidExecution, Overtakes}
use Rattle.wm_standard.specs.ValidExecution.Overtakes.{read_past, synchronized, written_over}
use Rattle.wm_standard.specs.Transcribed.{AreOperations, Operation, candidate_of, initial_event, order_of, shared_of, writers_read}
use Rattle.wm_standard.specs.Agreement.{ValuesEnd}
use Rattle.wm_standard.specs.InitialBytes.{AgreesByBytes, ByteEvent, byte_candidate_of, byte_order_of, byte_value, byte_writers, initial_byte, named_at}
use Rattle.wm_standard.specs.InitialBytes.ByteEvent.{InitAt, At as Of}
use Rattle.wm_standard.proofs.Events.{IsLogged, at-writes, atomic-order, equal-from, equal-turned, initial-is, initial-reads, initial-update, is-initial, log-writes, logged, logged-atomic, logged-equal, logged-writes, no-tear-from, reads-from, shared-at, some_of, writes-from}
use Rattle.wm_standard.proofs.Orders.{some-read}
use Rattle.wm_standard.proofs.Agreement.{same-id, to-standard, total, values-end, written-values}
use Rattle.wm_standard.proofs.Agreement.Member.{is_at}
use Rattle.wm_standard.proofs.ByteEvents.{ByteStands, Writer, byte-atomic, byte-logged, byte-reads, byte-shared-at, byte-stands-at, byte-update, from-whole, has-writer, initial-byte, initial-shared, length-named, named-log, to-bytes, to-whole, writer-of, writers-are}
use Rattle.wm_standard.proofs.ByteEvents.ByteStands.{made, of_log}
use Rattle.wm_standard.proofs.ByteOrders.{Below, above, before-init, below, initial-above, sync-from, sync-to}

module _ (run : LoggedRun) (ops : EventKey → Operation) (shape : IsWellShaped run) (fitting : AreOperations run ops) (large : 8 < length run.initial) where
  abbrev x : Execution
  x = execution run

  abbrev c : CandidateExecution EventId
  c = candidate_of run ops

  abbrev d : CandidateExecution ByteEvent
  d = byte_candidate_of run ops

  -- ---- values

  -- a byte of Init by either account
  init-byte : (a b : ℕ) (h : SharedEvent) → IsShared d (InitAt a) h → slice_get h.payload (a - h.byte_index) ≡ Some b → slice_get run.initial a ≡ Some b
  init-byte a b h is at =
      let i = initial-byte run ops shape a h is in
      let z : a - a ≡ 0 = omega arith in
      let here : slice_get (i.byte ∷ []) (a - a) ≡ Some b = subst (λ (h : SharedEvent). slice_get h.payload (a - h.byte_index) ≡ Some b) (sym i.fields) at in
      i.there ∙ sym (ap (slice_get (i.byte ∷ [])) z) ∙ here

  value-whole : {n : ByteEvent} {bytes : List ℕ} → ValueOfReadEvent d n bytes → (r : EventKey) → n ≡ Of r → ValueOfReadEvent c (At r) bytes
  value-whole {n} {bytes} (composed f value_of is size plain inner modified) r same =
      let is_r : IsShared d (Of r) f = subst (λ n. IsShared d n f) same is in
      let l = byte-logged run ops shape r f is_r in
      let count : length (byte_writers run n) ≡ length (writers_in run.witness r) =
      ap (λ n. length (byte_writers run n)) same ∙ ap length (writers-are run ops shape r l.event l.there) ∙ length-named l.event.address (writers_in run.witness r) in
      let at_f : (i : ℕ) (w : EventId) → slice_get (writers_in run.witness r) i ≡ Some w → slice_get (byte_writers run n) i ≡ Some (named_at (f.byte_index + i) w) =
      λ i w at. subst (λ n. slice_get (byte_writers run n) i ≡ Some (named_at (f.byte_index + i) w)) (sym same)
      (subst (λ (f : SharedEvent). slice_get (byte_writers run (Of r)) i ≡ Some (named_at (f.byte_index + i) w)) l.fields (has-writer run ops shape r l.event i w l.there at)) in
      composed f value_of (to-whole run ops shape r f is_r) (size ∙ count)
      (λ i b w g at is_w at_b kind. plain-at i b w g is_w kind (at_f i w at) at_b)
      (λ i w g at is_w kind. inner-at i w g at is_w kind (λ u e at_u. value-whole (inner i (Of u) (shared_of (ops u) e) (at_f i (At u) at_u.0) (byte-shared-at run ops shape u e at_u.1) at_u.2) u refl))
      (λ i b w g at is_w at_b kind. modified-at i b w g is_w kind (at_f i w at) at_b)
    where
      plain-at : (i b : ℕ) (w : EventId) (g : SharedEvent) → IsShared c w g → g.event_type ≡ WriteSharedMemory → slice_get (byte_writers run n) i ≡ Some (named_at (f.byte_index + i) w) → slice_get bytes i ≡ Some b
          → slice_get g.payload (f.byte_index + i - g.byte_index) ≡ Some b
      plain-at i b (At u) g is_w kind at at_b = plain i b (Of u) g at (to-bytes run ops shape u g is_w) at_b kind
      plain-at i b Init g is_w kind at at_b =
          let byte = initial-there i at in
          let left = plain i b (InitAt (f.byte_index + i)) (initial_byte (f.byte_index + i) byte.0) at (initial-shared run ops shape (f.byte_index + i) byte.0 byte.1) at_b refl in
          let z : f.byte_index + i ≡ f.byte_index + i - 0 = omega arith in
          let there : slice_get run.initial (f.byte_index + i) ≡ Some b = init-byte (f.byte_index + i) b (initial_byte (f.byte_index + i) byte.0) (initial-shared run ops shape (f.byte_index + i) byte.0 byte.1) left in
          subst (λ (g : SharedEvent). slice_get g.payload (f.byte_index + i - g.byte_index) ≡ Some b) (initial-is run ops shape g is_w) (sym (ap (slice_get run.initial) z) ∙ there)
        where
          initial-there : (i : ℕ) → slice_get (byte_writers run n) i ≡ Some (InitAt (f.byte_index + i)) → (byte : ℕ) × (slice_get run.initial (f.byte_index + i) ≡ Some byte)
          initial-there i at =
              let is_r : IsShared d (Of r) f = subst (λ n. IsShared d n f) same is in
              let l = byte-logged run ops shape r f is_r in
              let w = writer-of run ops shape r f i (InitAt (f.byte_index + i)) is_r (subst (λ n. slice_get (byte_writers run n) i ≡ Some (InitAt (f.byte_index + i))) same at) in
              let within = (some-read run ops shape large r l.event i w.writer l.there w.at).1 in
              let inside = (shape.good r l.event l.there).in_memory in
              let start : l.event.address ≡ f.byte_index = ap (λ (f : SharedEvent). f.byte_index) l.fields in
              (get_or run.initial (f.byte_index + i) 0, slice_get-get_or run.initial (f.byte_index + i) 0 (omega (arith, within, inside, start)))

      inner-at : (i : ℕ) (w : EventId) (g : SharedEvent) → slice_get (writers_in run.witness r) i ≡ Some w → IsShared c w g → g.event_type ≡ ReadModifyWriteSharedMemory
          → ((u : EventKey) (e : Event) → (slice_get (writers_in run.witness r) i ≡ Some (At u)) × (event_in run.log u ≡ Some e) × ((shared_of (ops u) e).event_type ≡ ReadModifyWriteSharedMemory) → ValueOfReadEvent c (At u) (value_of i))
          → ValueOfReadEvent c w (value_of i)
      inner-at i Init g at is_w kind again = absurd (initial-update run ops shape g is_w kind)
      inner-at i (At u) g at is_w kind again =
          let m = logged run ops shape u g is_w in
          again u m.event (at, m.there, ap (λ (g : SharedEvent). g.event_type) m.fields ∙ kind)

      modified-at : (i b : ℕ) (w : EventId) (g : SharedEvent) → IsShared c w g → g.event_type ≡ ReadModifyWriteSharedMemory → slice_get (byte_writers run n) i ≡ Some (named_at (f.byte_index + i) w) → slice_get bytes i ≡ Some b
          → slice_get (g.modify_op (value_of i) g.payload) (f.byte_index + i - g.byte_index) ≡ Some b
      modified-at i b Init g is_w kind at at_b = absurd (initial-update run ops shape g is_w kind)
      modified-at i b (At u) g is_w kind at at_b = modified i b (Of u) g at (to-bytes run ops shape u g is_w) at_b kind

  value-bytes : {e : EventId} {bytes : List ℕ} → ValueOfReadEvent c e bytes → (r : EventKey) → e ≡ At r → ValueOfReadEvent d (Of r) bytes
  value-bytes {e} {bytes} (composed f value_of is size plain inner modified) r same =
      let is_r : IsShared c (At r) f = subst (λ e. IsShared c e f) same is in
      let l = logged run ops shape r f is_r in
      let is_d = to-bytes run ops shape r f is_r in
      let count : length (writers_read run e) ≡ length (byte_writers run (Of r)) =
      ap (λ e. length (writers_read run e)) same ∙ sym (ap length (writers-are run ops shape r l.event l.there) ∙ length-named l.event.address (writers_in run.witness r)) in
      composed f value_of is_d (size ∙ count)
      (λ i b n g at is_n at_b kind. plain-at i b n g is_n kind (writer-of run ops shape r f i n is_d at) at_b)
      (λ i n g at is_n kind. inner-at i n g is_n kind (writer-of run ops shape r f i n is_d at) (λ u h at_u. value-bytes (inner i (At u) (shared_of (ops u) h) (subst (λ e. slice_get (writers_read run e) i ≡ Some (At u)) (sym same) at_u.0) (shared-at run ops shape u h at_u.1) at_u.2) u refl))
      (λ i b n g at is_n at_b kind. modified-at i b n g is_n kind (writer-of run ops shape r f i n is_d at) at_b)
    where
      at-e : (i : ℕ) (w : EventId) → slice_get (writers_in run.witness r) i ≡ Some w → slice_get (writers_read run e) i ≡ Some w
      at-e i w at = subst (λ e. slice_get (writers_read run e) i ≡ Some w) (sym same) at

      plain-at : (i b : ℕ) (n : ByteEvent) (g : SharedEvent) → IsShared d n g → g.event_type ≡ WriteSharedMemory → Writer run ops shape r f i n → slice_get bytes i ≡ Some b → slice_get g.payload (f.byte_index + i - g.byte_index) ≡ Some b
      plain-at i b (Of u) g is_n kind w at_b =
          let one = named-log (f.byte_index + i) w.writer u w.named in
          plain i b (At u) g (at-e i (At u) (w.at ∙ ap Some one)) (to-whole run ops shape u g is_n) at_b kind
      plain-at i b (InitAt a) g is_n kind w at_b = by w.writer w.at w.named
        where
          by : (v : EventId) → slice_get (writers_in run.witness r) i ≡ Some v → named_at (f.byte_index + i) v ≡ InitAt a → slice_get g.payload (f.byte_index + i - g.byte_index) ≡ Some b
          by (At u) at named = absurd (cc)
          by Init at named =
              let here : f.byte_index + i ≡ a = cc in
              let k = initial-byte run ops shape a g is_n in
              let left = plain i b Init (initial_event run.initial) (at-e i Init at) (is-initial run ops shape) at_b refl in
              let z : f.byte_index + i - 0 ≡ a = omega (arith, here) in
              let byte : k.byte ≡ b = same_Some k.byte b (sym k.there ∙ sym (ap (slice_get run.initial) z) ∙ left) in
              let index : f.byte_index + i - a ≡ 0 = omega (arith, here) in
              subst (λ (g : SharedEvent). slice_get g.payload (f.byte_index + i - g.byte_index) ≡ Some b) k.fields (ap (slice_get (k.byte ∷ [])) index ∙ ap Some byte)

      inner-at : (i : ℕ) (n : ByteEvent) (g : SharedEvent) → IsShared d n g → g.event_type ≡ ReadModifyWriteSharedMemory → Writer run ops shape r f i n
          → ((u : EventKey) (h : Event) → (slice_get (writers_in run.witness r) i ≡ Some (At u)) × (event_in run.log u ≡ Some h) × ((shared_of (ops u) h).event_type ≡ ReadModifyWriteSharedMemory) → ValueOfReadEvent d (Of u) (value_of i))
          → ValueOfReadEvent d n (value_of i)
      inner-at i (InitAt a) g is_n kind w again = absurd (byte-update run ops shape a g is_n kind)
      inner-at i (Of u) g is_n kind w again =
          let m = byte-logged run ops shape u g is_n in
          again u m.event (w.at ∙ ap Some (named-log (f.byte_index + i) w.writer u w.named), m.there, ap (λ (g : SharedEvent). g.event_type) m.fields ∙ kind)

      modified-at : (i b : ℕ) (n : ByteEvent) (g : SharedEvent) → IsShared d n g → g.event_type ≡ ReadModifyWriteSharedMemory → Writer run ops shape r f i n → slice_get bytes i ≡ Some b
          → slice_get (g.modify_op (value_of i) g.payload) (f.byte_index + i - g.byte_index) ≡ Some b
      modified-at i b (InitAt a) g is_n kind w at_b = absurd (byte-update run ops shape a g is_n kind)
      modified-at i b (Of u) g is_n kind w at_b =
          let one = named-log (f.byte_index + i) w.writer u w.named in
          modified i b (At u) g (at-e i (At u) (w.at ∙ ap Some one)) (to-whole run ops shape u g is_n) at_b kind

  -- ---- the order of events

  pub order-irreflexive : (e : ByteEvent) → byte_order_of run e e → ⊥
  order-irreflexive (InitAt a) l = omega (arith, l)
  order-irreflexive (Of a) l = omega (arith, l)

  pub order-transitive : (e f g : ByteEvent) → byte_order_of run e f → byte_order_of run f g → byte_order_of run e g
  order-transitive (InitAt a) (InitAt b) (InitAt n) h k = omega (arith, h, k)
  order-transitive (InitAt a) (InitAt b) (Of n) h k = tt
  order-transitive (InitAt a) (Of b) (InitAt n) h k = absurd k
  order-transitive (InitAt a) (Of b) (Of n) h k = tt
  order-transitive (Of a) (InitAt b) g h k = absurd h
  order-transitive (Of a) (Of b) (InitAt n) h k = absurd k
  order-transitive (Of a) (Of b) (Of n) h k = omega (arith, h, k)

  pub order-total : (e f : ByteEvent) → IsEvent d e → IsEvent d f → (e ≡ f) ⊎ (byte_order_of run e f ⊎ byte_order_of run f e)
  order-total (InitAt a) (InitAt b) is_e is_f = ⊎_elim
      (λ (l : a < b). inr (inl l))
      (λ (l : b ≤ a). ⊎_elim (λ (m : b < a). inr (inr m)) (λ (m : a ≤ b). let s : a ≡ b = omega (arith, l, m) in inl (ap InitAt s)) (cases_lt b a))
      (cases_lt a b)
  order-total (InitAt a) (Of b) is_e is_f = inr (inl tt)
  order-total (Of a) (InitAt b) is_e is_f = inr (inr tt)
  order-total (Of a) (Of b) is_e is_f =
      let e = logged-event a is_e in
      let f = logged-event b is_f in
      ⊎_elim
      (λ (same : At a ≡ At b). inl (let k : a ≡ b = cc in ap Of k))
      (λ (o : order_of run (At a) (At b) ⊎ order_of run (At b) (At a)). inr (⊎_elim (λ (l : order_of run (At a) (At b)). inl (omega (arith, l))) (λ (l : order_of run (At b) (At a)). inr (omega (arith, l))) o))
      (total run ops shape fitting large (At a) (At b) (is_at a e.0 refl e.1) (is_at b f.0 refl f.1))
    where
      logged-event : (a : EventKey) → IsEvent d (Of a) → (e : Event) × (event_in run.log a ≡ Some e)
      logged-event a is = by (byte-stands-at run ops shape is.0 is.2 is.1 (Of a) is.3 is.4)
        where
          by : ByteStands run ops shape is.0 is.2 (Of a) → (e : Event) × (event_in run.log a ≡ Some e)
          by (made p h) = absurd (cc)
          by (of_log t e p there h) = let k : a ≡ record { thread = t; number = is.2 } = cc in (e, ap (event_in run.log) k ∙ there)

  pub in-list : (e : ByteEvent) (f : SharedEvent) → IsShared d e f → Reads f → (i : ℕ) × (slice_get (map Of run.witness.order) i ≡ Some e)
  in-list (InitAt a) f is does = absurd (byte-reads run ops shape a f is does)
  in-list (Of key) f is does =
      let l = byte-logged run ops shape key f is in
      let n = shape.order.listed key (some_of (event_in run.log key) l.event l.there) in
      (n.0, slice_get-map Of run.witness.order n.0 ∙ ap (option_map Of) n.1)

  -- ---- from the rules to the standard

  module _ (valid : IsValid x) (values : ValuesEnd x) where
    std : IsValidExecution HaveOverlappingRanges c (order_of run)
    std = to-standard run ops shape fitting large valid values

    size : (r : ByteEvent) (f : SharedEvent) → IsShared d r f → Reads f → length (byte_writers run r) ≡ f.element_size
    size (InitAt a) f is does = absurd (byte-reads run ops shape a f is does)
    size (Of r) f is does =
        let l = byte-logged run ops shape r f is in
        ap length (writers-are run ops shape r l.event l.there) ∙ length-named l.event.address (writers_in run.witness r) ∙ std.reads_bytes_from.size (At r) f (to-whole run ops shape r f is) does

    writers : (r : ByteEvent) (f : SharedEvent) → IsShared d r f → Reads f → (i : ℕ) (n : ByteEvent) → slice_get (byte_writers run r) i ≡ Some n
        → (g : SharedEvent) × IsShared d n g × Writes g × InRange g (f.byte_index + i)
    writers (InitAt a) f is does i n at = absurd (byte-reads run ops shape a f is does)
    writers (Of r) f is does i n at =
        let w = writer-of run ops shape r f i n is at in
        by w.writer w.named (std.reads_bytes_from.writers (At r) f (to-whole run ops shape r f is) does i w.writer w.at)
      where
        by : (v : EventId) → named_at (f.byte_index + i) v ≡ n → ((g : SharedEvent) × IsShared c v g × Writes g × InRange g (f.byte_index + i)) → (g : SharedEvent) × IsShared d n g × Writes g × InRange g (f.byte_index + i)
        by Init named q =
            let inside : InRange (initial_event run.initial) (f.byte_index + i) = subst (λ (g : SharedEvent). InRange g (f.byte_index + i)) (sym (initial-is run ops shape q.0 q.1)) q.3 in
            let below = inside.1 in
            let byte = slice_get-get_or run.initial (f.byte_index + i) 0 (omega (arith, below)) in
            let g : SharedEvent = initial_byte (f.byte_index + i) (get_or run.initial (f.byte_index + i) 0) in
            (g, subst (λ n. IsShared d n g) named (initial-shared run ops shape (f.byte_index + i) (get_or run.initial (f.byte_index + i) 0) byte), inl refl, (omega arith, omega arith))
        by (At u) named q = (q.0, subst (λ n. IsShared d n q.0) named (to-bytes run ops shape u q.0 q.1), q.2, q.3)

    others : (r : ByteEvent) (f : SharedEvent) → IsShared d r f → Reads f → (i : ℕ) (n : ByteEvent) → slice_get (byte_writers run r) i ≡ Some n → n ≢ r
    others (InitAt a) f is does i n at = absurd (byte-reads run ops shape a f is does)
    others (Of r) f is does i n at = λ same.
        let w = writer-of run ops shape r f i n is at in
        std.reads_bytes_from.others (At r) f (to-whole run ops shape r f is) does i w.writer w.at (named-log (f.byte_index + i) w.writer r (w.named ∙ same))

    chosen : (r : ByteEvent) (f : SharedEvent) → IsShared d r f → Reads f → ValueOfReadEvent d r (byte_value run r)
    chosen (InitAt a) f is does = absurd (byte-reads run ops shape a f is does)
    chosen (Of r) f is does = value-bytes (std.chosen (At r) f (to-whole run ops shape r f is) does) r refl

    coherent : (r : ByteEvent) (f : SharedEvent) → IsShared d r f → Reads f → (i : ℕ) (n : ByteEvent) → slice_get (byte_writers run r) i ≡ Some n
        → (HappensBefore HaveCommonBytes d r n → ⊥)
        × ((v : ByteEvent) (g : SharedEvent) → IsShared d v g → Writes g → InRange g (f.byte_index + i) → HappensBefore HaveCommonBytes d n v → HappensBefore HaveCommonBytes d v r → ⊥)
    coherent (InitAt a) f is does i n at = absurd (byte-reads run ops shape a f is does)
    coherent (Of r) f is does i n at = by w.writer w.named (valid.keeps_coherence r l.event i w.writer l.there w.at)
      where
        l : IsLogged run ops shape r f
        l = byte-logged run ops shape r f is

        w : Writer run ops shape r f i n
        w = writer-of run ops shape r f i n is at

        start : l.event.address ≡ f.byte_index
        start = ap (λ (f : SharedEvent). f.byte_index) l.fields

        by : (u : EventId) → named_at (f.byte_index + i) u ≡ n → (Before x (At r) u → ⊥) × ((v : EventId) → WritesByte x v (l.event.address + i) → Before x u v → Before x v (At r) → ⊥)
            → (HappensBefore HaveCommonBytes d (Of r) n → ⊥)
            × ((v : ByteEvent) (g : SharedEvent) → IsShared d v g → Writes g → InRange g (f.byte_index + i) → HappensBefore HaveCommonBytes d n v → HappensBefore HaveCommonBytes d v (Of r) → ⊥)
        by u named k = (λ h. future u named k.0 (below run ops shape large h), λ v g is_v writes_v within h j. between u named k.1 v g is_v writes_v within (below run ops shape large h) (below run ops shape large j))
          where
            future : (u : EventId) → named_at (f.byte_index + i) u ≡ n → (Before x (At r) u → ⊥) → Below run ops shape large (Of r) n → ⊥
            future Init named none h = subst (Below run ops shape large (Of r)) (sym named) h
            future (At a) named none h = none (subst (Below run ops shape large (Of r)) (sym named) h)

            between : (u : EventId) → named_at (f.byte_index + i) u ≡ n → ((v : EventId) → WritesByte x v (l.event.address + i) → Before x u v → Before x v (At r) → ⊥)
                → (v : ByteEvent) (g : SharedEvent) → IsShared d v g → Writes g → InRange g (f.byte_index + i) → Below run ops shape large n v → Below run ops shape large v (Of r) → ⊥
            between u named none (InitAt b) g is_v writes_v within h j = first u named
              where
                here : b ≡ f.byte_index + i
                here =
                    let k = initial-byte run ops shape b g is_v in
                    let q : InRange (initial_byte b k.byte) (f.byte_index + i) = subst (λ (g : SharedEvent). InRange g (f.byte_index + i)) (sym k.fields) within in
                    let low = q.0 in
                    let high = q.1 in
                    omega (arith, low, high)

                first : (u : EventId) → named_at (f.byte_index + i) u ≡ n → ⊥
                first Init named = let m : f.byte_index + i < b = subst (λ n. Below run ops shape large n (InitAt b)) (sym named) h in let s = here in omega (arith, m, s)
                first (At a) named = subst (λ n. Below run ops shape large n (InitAt b)) (sym named) h
            between u named none (Of v) g is_v writes_v within h j =
                none (At v) (at-writes run ops shape (At v) g (l.event.address + i) (to-whole run ops shape v g is_v) writes_v (subst (λ a. InRange g (a + i)) (sym start) within)) (first u named) j
              where
                first : (u : EventId) → named_at (f.byte_index + i) u ≡ n → Before x u (At v)
                first Init named = ([], subst (λ n. Below run ops shape large n (Of v)) (sym named) h)
                first (At a) named = subst (λ n. Below run ops shape large n (Of v)) (sym named) h

    -- a read with the range of an Init event has one byte, so one writer
    one-byte : (r : EventKey) (a : ℕ) (n m : ByteEvent) (f g : SharedEvent) → IsShared d (InitAt a) g → HaveEqualRanges f g → ReadsFrom d (Of r) n f → ReadsFrom d (Of r) m f → n ≡ m
    one-byte r a n m f g is equal from_n from_m =
        let k = initial-byte run ops shape a g is in
        let size_n = size (Of r) f from_n.reader from_n.reads in
        let p = slice_get_within (byte_writers run (Of r)) from_n.index n from_n.contains in
        let q = slice_get_within (byte_writers run (Of r)) from_m.index m from_m.contains in
        let same : (b : ℕ) → InRange f b → InRange (initial_byte a k.byte) b = λ b h. subst (λ (g : SharedEvent). InRange g b) (sym k.fields) ((equal.1 b).0 h) in
        let first = same (f.byte_index + from_n.index) (omega arith, omega (arith, size_n, p)) in
        let second = same (f.byte_index + from_m.index) (omega arith, omega (arith, size_n, q)) in
        let low = first.0 in
        let high = first.1 in
        let low' = second.0 in
        let high' = second.1 in
        let index : from_n.index ≡ from_m.index = omega (arith, low, high, low', high') in
        same_Some n m (sym from_n.contains ∙ ap (slice_get (byte_writers run (Of r))) index ∙ from_m.contains)

    tear-free : (r n m : ByteEvent) (f g h : SharedEvent) → IsTrue f.no_tear → ReadsFrom d r n f → IsShared d n g → IsTrue g.no_tear → HaveEqualRanges f g
        → IsShared d m h → HaveEqualRanges h g → IsTrue h.no_tear → n ≢ m → ReadsFrom d r m f → ⊥
    tear-free (InitAt a) n m f g h f_whole from_n is_n g_whole equal is_m equal_m h_whole apart from_m = byte-reads run ops shape a f from_n.reader from_n.reads
    tear-free (Of r) (InitAt a) m f g h f_whole from_n is_n g_whole equal is_m equal_m h_whole apart from_m = apart (one-byte r a (InitAt a) m f g is_n equal from_n from_m)
    tear-free (Of r) (Of a) (InitAt b) f g h f_whole from_n is_n g_whole equal is_m equal_m h_whole apart from_m =
        apart (one-byte r b (Of a) (InitAt b) f h is_m (equal.0 ∙ sym equal_m.0, λ b. (λ k. (equal_m.1 b).1 ((equal.1 b).0 k), λ k. (equal.1 b).1 ((equal_m.1 b).0 k))) from_n from_m)
    tear-free (Of r) (Of a) (Of b) f g h f_whole from_n is_n g_whole equal is_m equal_m h_whole apart from_m =
        let w = writer-of run ops shape r f from_n.index (Of a) from_n.reader from_n.contains in
        let v = writer-of run ops shape r f from_m.index (Of b) from_m.reader from_m.contains in
        let whole : (i : ℕ) (u : EventKey) → slice_get (writers_in run.witness r) i ≡ Some (At u) → ReadsFrom c (At r) (At u) f = λ i u at. record { reader = to-whole run ops shape r f from_n.reader; reads = from_n.reads; index = i; contains = at } in
        std.tear_free (At r) (At a) (At b) f g h f_whole (whole from_n.index a (w.at ∙ ap Some (named-log (f.byte_index + from_n.index) w.writer a w.named))) (to-whole run ops shape a g is_n) g_whole equal
        (to-whole run ops shape b h is_m) equal_m h_whole (λ s. apart (let k : a ≡ b = cc in ap Of k))
        (whole from_m.index b (v.at ∙ ap Some (named-log (f.byte_index + from_m.index) v.writer b v.named)))

    -- ---- the order

    below-order : (e f : ByteEvent) → Below run ops shape large e f → byte_order_of run e f
    below-order (InitAt a) (InitAt b) h = h
    below-order (InitAt a) (Of b) h = tt
    below-order (Of a) (InitAt b) h = h
    below-order (Of a) (Of b) h = let l = valid.keeps_order (At a) (At b) h in omega (arith, l)

    atomics : (r n m : ByteEvent) (f g h : SharedEvent) → ReadsFrom d r n f → IsShared d n g → IsShared d m h → Writes h → h.order ≡ SeqCst
        → byte_order_of run n m → byte_order_of run m r → Overtakes HaveCommonBytes d r n m f g h → ⊥
    atomics (InitAt a) n m f g h from is_n is_m does atomic before after o = byte-reads run ops shape a f from.reader from.reads
    atomics (Of r) n (InitAt b) f g h from is_n is_m does atomic before after o = byte-atomic run ops shape b h is_m atomic
    atomics (Of r) n (Of u) f g h from is_n is_m does atomic before after o = by w.writer w.at w.named
      where
        l : IsLogged run ops shape r f
        l = byte-logged run ops shape r f from.reader

        m' : IsLogged run ops shape u h
        m' = byte-logged run ops shape u h is_m

        w : Writer run ops shape r f from.index n
        w = writer-of run ops shape r f from.index n from.reader from.contains

        writing : IsAtomicWrite x (At u)
        writing = (m'.event, m'.there, logged-atomic run ops shape u h m' atomic, logged-writes run ops shape u h m' does)

        ranged : HaveEqualRanges h f → HasRange x (At u) l.event
        ranged equal = (m'.event, m'.there, logged-equal run ops shape u r h f m' l equal)

        between : (v : EventId) → named_at (f.byte_index + from.index) v ≡ n → place x v < place x (At u)
        between Init named = omega arith
        between (At a) named = let k : byte_order_of run (Of a) (Of u) = subst (λ n. byte_order_of run n (Of u)) (sym named) before in omega (arith, k)

        to : (v : EventId) → named_at (f.byte_index + from.index) v ≡ n → (b : EventKey) → HappensBefore HaveCommonBytes d n (Of b) → Before x v (At b)
        to Init named b h = ([], subst (λ n. Below run ops shape large n (Of b)) (sym named) (below run ops shape large h))
        to (At a) named b h = subst (λ n. Below run ops shape large n (Of b)) (sym named) (below run ops shape large h)

        by : (v : EventId) → slice_get (writers_in run.witness r) from.index ≡ Some v → named_at (f.byte_index + from.index) v ≡ n → ⊥
        by v at named = cases o
          where
            rule : (k : ℕ) → Between x v (At u) r l.event k → ⊥
            rule k b = valid.keeps_sequential_consistency r l.event from.index v l.there at (At u) k writing (between v named) (omega (arith, after)) b

            cases : Overtakes HaveCommonBytes d (Of r) n (Of u) f g h → ⊥
            cases (synchronized s equal) =
                let t = sync-to run ops shape large s in
                let a : v ≡ At t.writer = named-log (f.byte_index + from.index) v t.writer (named ∙ t.is_writer) in
                let b : t.reader ≡ r = let e : Of r ≡ Of t.reader = t.is_reader in cc in
                rule 1 (by_sync refl t.writer a (subst (Synchronizes x t.writer) b t.synchronizes) (ranged equal))
            cases (written_over first second g_atomic equal) = written v at named
              where
                written : (v : EventId) → slice_get (writers_in run.witness r) from.index ≡ Some v → named_at (f.byte_index + from.index) v ≡ n → ⊥
                written Init at named = byte-atomic run ops shape (f.byte_index + from.index) g (subst (λ n. IsShared d n g) (sym named) is_n) g_atomic
                written (At a) at named =
                    let is_a : IsShared d (Of a) g = subst (λ n. IsShared d n g) (sym named) is_n in
                    let q = byte-logged run ops shape a g is_a in
                    valid.keeps_sequential_consistency r l.event from.index (At a) l.there at (At u) 2 writing (between (At a) named) (omega (arith, after))
                    (over refl q.event q.there (logged-atomic run ops shape a g q g_atomic) (to (At a) named r first) (below run ops shape large second)
                    (m'.event, m'.there, logged-equal run ops shape u a h g m' q (equal-turned g h equal)))
            cases (read_past first second f_atomic equal) =
                rule 3 (past refl (logged-atomic run ops shape r f l f_atomic) (to v named r first) (to v named u second) (ranged equal))

    memory-order : IsMemoryOrder HaveCommonBytes d (byte_order_of run)
    memory-order = record {
      irreflexive = λ e is l. order-irreflexive e l;
      transitive = λ e f g is_e is_f is_g l m. order-transitive e f g l m;
      total = order-total;
      keeps_happens_before = λ e f h. below-order e f (below run ops shape large h);
      keeps_atomics = atomics;
      finite = λ w g is does atomic. (map Of run.witness.order, λ e p. in-list e p.0 p.1 p.2);
    }

    pub to-bytes-standard : IsValidExecution HaveCommonBytes (byte_candidate_of run ops) (byte_order_of run)
    to-bytes-standard = record {
      reads_bytes_from = record { size = size; writers = writers; others = others };
      host = λ e f h. absurd h;
      strict = λ e h. order-irreflexive e (below-order e e (below run ops shape large h));
      chosen = chosen;
      coherent = coherent;
      tear_free = tear-free;
      memory_order = memory-order;
    }

  -- ---- from the standard to the rules

  module _ (std : IsValidExecution HaveCommonBytes d (byte_order_of run)) where
    whole-bytes : IsReadsBytesFrom c
    whole-bytes = record { size = whole-size; writers = whole-writers; others = whole-others }
      where
        at-bytes : (r : EventKey) (f : SharedEvent) → IsShared c (At r) f → (i : ℕ) (w : EventId) → slice_get (writers_in run.witness r) i ≡ Some w → slice_get (byte_writers run (Of r)) i ≡ Some (named_at (f.byte_index + i) w)
        at-bytes r f is i w at =
            let l = logged run ops shape r f is in
            subst (λ (f : SharedEvent). slice_get (byte_writers run (Of r)) i ≡ Some (named_at (f.byte_index + i) w)) l.fields (has-writer run ops shape r l.event i w l.there at)

        whole-size : (r : EventId) (f : SharedEvent) → IsShared c r f → Reads f → length (writers_read run r) ≡ f.element_size
        whole-size Init f is does = absurd (initial-reads run ops shape f is does)
        whole-size (At r) f is does =
            let l = logged run ops shape r f is in
            sym (ap length (writers-are run ops shape r l.event l.there) ∙ length-named l.event.address (writers_in run.witness r)) ∙ std.reads_bytes_from.size (Of r) f (to-bytes run ops shape r f is) does

        whole-writers : (r : EventId) (f : SharedEvent) → IsShared c r f → Reads f → (i : ℕ) (w : EventId) → slice_get (writers_read run r) i ≡ Some w → (g : SharedEvent) × IsShared c w g × Writes g × InRange g (f.byte_index + i)
        whole-writers Init f is does i w at = absurd (initial-reads run ops shape f is does)
        whole-writers (At r) f is does i (At u) at =
            let q = std.reads_bytes_from.writers (Of r) f (to-bytes run ops shape r f is) does i (Of u) (at-bytes r f is i (At u) at) in
            (q.0, to-whole run ops shape u q.0 q.1, q.2, q.3)
        whole-writers (At r) f is does i Init at =
            let l = logged run ops shape r f is in
            let within = (some-read run ops shape large r l.event i Init l.there at).1 in
            let inside = (shape.good r l.event l.there).in_memory in
            let start : l.event.address ≡ f.byte_index = ap (λ (f : SharedEvent). f.byte_index) l.fields in
            (initial_event run.initial, is-initial run ops shape, inl refl, (omega arith, omega (arith, within, inside, start)))

        whole-others : (r : EventId) (f : SharedEvent) → IsShared c r f → Reads f → (i : ℕ) (w : EventId) → slice_get (writers_read run r) i ≡ Some w → w ≢ r
        whole-others Init f is does i w at = absurd (initial-reads run ops shape f is does)
        whole-others (At r) f is does i w at = λ same.
            std.reads_bytes_from.others (Of r) f (to-bytes run ops shape r f is) does i (named_at (f.byte_index + i) w) (at-bytes r f is i w at) (ap (named_at (f.byte_index + i)) same)

    whole-chosen : HasValidChosenReads HaveOverlappingRanges c
    whole-chosen Init f is does = absurd (initial-reads run ops shape f is does)
    whole-chosen (At r) f is does = value-whole (std.chosen (Of r) f (to-bytes run ops shape r f is) does) r refl

    keeps-order : KeepsOrder x
    keeps-order Init Init h = absurd (before-init x Init h)
    keeps-order (At a) Init h = absurd (before-init x (At a) h)
    keeps-order Init (At b) h = omega arith
    keeps-order (At a) (At b) h = let l : byte_order_of run (Of a) (Of b) = std.memory_order.keeps_happens_before (Of a) (Of b) (above run ops shape large a b h) in omega (arith, l)

    -- the byte that a read takes is in its range
    in-range : (r : EventKey) (e : Event) (k : ℕ) (w : EventId) → event_in run.log r ≡ Some e → slice_get (writers_in run.witness r) k ≡ Some w → InRange (shared_of (ops r) e) (e.address + k)
    in-range r e k w there at = let l = (some-read run ops shape large r e k w there at).1 in (omega arith, omega (arith, l))

    -- what happens before an event that accesses the byte does so too by the name of the byte's writer
    named-above : (a : ℕ) (w : EventId) (b : EventKey) (e : Event) → event_in run.log b ≡ Some e → InRange (shared_of (ops b) e) a → Before x w (At b) → HappensBefore HaveCommonBytes d (named_at a w) (Of b)
    named-above a Init b e there within h = initial-above run ops shape large a b e there within
    named-above a (At u) b e there within h = above run ops shape large u b h

    keeps-coherence : KeepsCoherence x
    keeps-coherence r e k w there at =
        let does = some-read run ops shape large r e k w there at in
        let p = std.coherent (Of r) (shared_of (ops r) e) (byte-shared-at run ops shape r e there) (reads-from (ops r) e does.0) k (named_at (e.address + k) w) (has-writer run ops shape r e k w there at) in
        (λ h. future w p.0 h, λ v writes_v h j. between v writes_v p.1 h j)
      where
        future : (w : EventId) → (HappensBefore HaveCommonBytes d (Of r) (named_at (e.address + k) w) → ⊥) → Before x (At r) w → ⊥
        future Init none h = before-init x (At r) h
        future (At u) none h = none (above run ops shape large r u h)

        between : (v : EventId) → WritesByte x v (e.address + k)
            → ((v : ByteEvent) (g : SharedEvent) → IsShared d v g → Writes g → InRange g (e.address + k) → HappensBefore HaveCommonBytes d (named_at (e.address + k) w) v → HappensBefore HaveCommonBytes d v (Of r) → ⊥)
            → Before x w v → Before x v (At r) → ⊥
        between Init writes_v none h j = before-init x w h
        between (At v) writes_v none h j =
            let g = log-writes run ops shape v (e.address + k) writes_v in
            none (Of v) (shared_of (ops v) g.event) (byte-shared-at run ops shape v g.event g.there) (writes-from (ops v) g.event g.does) g.within
            (named-above (e.address + k) w v g.event g.there g.within h) (above run ops shape large v r j)

    keeps-no-tearing : KeepsNoTearing x
    keeps-no-tearing r e there whole v w is_v is_w = ⊎_elim (λ (same : v ≡ w). same) (λ (apart : v ≢ w). absurd (by v w is_v is_w apart)) (same-id v w)
      where
        by : (v w : EventId) → IsTearFreeWriter x r e v → IsTearFreeWriter x r e w → v ≢ w → ⊥
        by Init w is_v is_w apart = none-some is_v.1.0 is_v.1.1
        by (At a) Init is_v is_w apart = none-some is_w.1.0 is_w.1.1
        by (At a) (At b) is_v is_w apart =
            let m = is_v.1 in
            let n = is_w.1 in
            let does = some-read run ops shape large r e is_v.0.0 (At a) there is_v.0.1 in
            std.tear_free (Of r) (Of a) (Of b) (shared_of (ops r) e) (shared_of (ops a) m.0) (shared_of (ops b) n.0) (no-tear-from e whole)
            (from-whole run ops shape r e is_v.0.0 (At a) there is_v.0.1 (reads-from (ops r) e does.0)) (byte-shared-at run ops shape a m.0 m.1) (no-tear-from m.0 m.2) (equal-from (ops r) (ops a) e m.0 (sym m.3))
            (byte-shared-at run ops shape b n.0 n.1) (equal-from (ops b) (ops a) n.0 m.0 (n.3 ∙ sym m.3)) (no-tear-from n.0 n.2) (λ s. apart (let k : a ≡ b = cc in ap At k))
            (from-whole run ops shape r e is_w.0.0 (At b) there is_w.0.1 (reads-from (ops r) e does.0))

    keeps-atomics : KeepsSequentialConsistency x
    keeps-atomics r e k w there at v n writing before after o =
        let does = some-read run ops shape large r e k w there at in
        let q = std.reads_bytes_from.writers (Of r) (shared_of (ops r) e) (byte-shared-at run ops shape r e there) (reads-from (ops r) e does.0) k (named_at (e.address + k) w) (has-writer run ops shape r e k w there at) in
        by v writing before after (from-whole run ops shape r e k w there at (reads-from (ops r) e does.0)) q.0 q.1 o
      where
        by : (v : EventId) → IsAtomicWrite x v → place x w < place x v → place x v < place x (At r) → ReadsFrom (byte_candidate_of run ops) (Of r) (named_at (e.address + k) w) (shared_of (ops r) e) → (g : SharedEvent)
            → IsShared (byte_candidate_of run ops) (named_at (e.address + k) w) g → Between x w v r e n → ⊥
        by Init writing before after from g is_w o = none-some writing.0 writing.1
        by (At u) writing before after from g is_w o = std.memory_order.keeps_atomics (Of r) (named_at (e.address + k) w) (Of u) (shared_of (ops r) e) g (shared_of (ops u) writing.0) from is_w
            (byte-shared-at run ops shape u writing.0 writing.1) (writes-from (ops u) writing.0 writing.3) (atomic-order (ops u) writing.0 writing.2) (ordered w before) (omega (arith, after)) (which o)
          where
            ordered : (w : EventId) → place x w < place x (At u) → byte_order_of run (named_at (e.address + k) w) (Of u)
            ordered Init l = tt
            ordered (At a) l = omega (arith, l)

            ranged : (f : Event) → HasRange x (At u) f → range_of writing.0 ≡ range_of f
            ranged f h = ap range_of (same_Some writing.0 h.0 (sym writing.1 ∙ h.1)) ∙ h.2

            which : Between x w (At u) r e n → Overtakes HaveCommonBytes (byte_candidate_of run ops) (Of r) (named_at (e.address + k) w) (Of u) (shared_of (ops r) e) g (shared_of (ops u) writing.0)
            which (by_sync i t is s h) =
                synchronized (subst (λ w. SynchronizesWith (byte_candidate_of run ops) (named_at (e.address + k) w) (Of r)) (sym is) (sync-from run ops shape large t r s)) (equal-from (ops u) (ops r) writing.0 e (ranged e h))
            which (over i f at_w atomic first second h) = written w at_w is_w first
              where
                written : (v : EventId) → event_at x v ≡ Some f → IsShared (byte_candidate_of run ops) (named_at (e.address + k) v) g → Before x v (At r)
                    → Overtakes HaveCommonBytes (byte_candidate_of run ops) (Of r) (named_at (e.address + k) v) (Of u) (shared_of (ops r) e) g (shared_of (ops u) writing.0)
                written Init at_v is_v first_v = absurd (none-some f at_v)
                written (At a) at_v is_v first_v =
                    let l = byte-logged run ops shape a g is_v in
                    let same : f ≡ l.event = same_Some f l.event (sym at_v ∙ l.there) in
                    written_over (above run ops shape large a r first_v) (above run ops shape large u r second)
                    (ap (λ (g : SharedEvent). g.order) (sym l.fields) ∙ atomic-order (ops a) l.event (subst (λ f. IsTrue (is_atomic f)) same atomic))
                    (subst (λ (g : SharedEvent). HaveEqualRanges g (shared_of (ops u) writing.0)) l.fields (equal-from (ops a) (ops u) l.event writing.0 (ap range_of (sym same) ∙ sym (ranged f h))))
            which (past i atomic first second h) =
                read_past (named-above (e.address + k) w r e there (in-range r e k w there at) first)
                (named-above (e.address + k) w u writing.0 writing.1 (within h) second) (atomic-order (ops r) e atomic) (equal-from (ops u) (ops r) writing.0 e (ranged e h))
              where
                within : HasRange x (At u) e → InRange (shared_of (ops u) writing.0) (e.address + k)
                within h = ((equal-from (ops u) (ops r) writing.0 e (ranged e h)).1 (e.address + k)).1 (in-range r e k w there at)

    pub from-bytes-standard : IsValid x × ValuesEnd x
    from-bytes-standard = (
      record {
        keeps_written_values = written-values run ops shape fitting large whole-bytes whole-chosen;
        keeps_order = keeps-order;
        keeps_coherence = keeps-coherence;
        keeps_no_tearing = keeps-no-tearing;
        keeps_sequential_consistency = keeps-atomics;
      },
      values-end run ops shape fitting large whole-bytes whole-chosen,
    )

pub agrees-by-bytes : AgreesByBytes
agrees-by-bytes run ops shape fitting large = (λ both. to-bytes-standard run ops shape fitting large both.0 both.1, λ std. from-bytes-standard run ops shape fitting large std)
