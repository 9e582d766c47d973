-- The events of a log as events of its candidate execution with an Init event for each byte.
use Rattle.std.proofs.Common.{◌≡◌, ℕ, zero, suc, ◌+◌, ◌<◌, List, [], ◌∷◌, map, length, slice_get, Option, None, Some, refl, sym, ap, ◌∙◌, subst, arith, ⊎_elim}
use Rattle.std.specs.Option.{option_map, option_map_or}
use Rattle.std.proofs.lemmas.Option.{same_Some, none-some, slice_get-map, slice_get_within, option_and_then_some}
use Rattle.wm_event.specs.declared.event.Event.{Event}
use Rattle.wm_event.specs.declared.event.EventKey.{EventKey}
use Rattle.wm_event.specs.declared.event.EventId.{EventId}
use Rattle.wm_event.specs.declared.event.EventId.TheVariants.{Init, At}
use Rattle.wm_event.specs.declared.log.ThreadLog.{ThreadLog}
use Rattle.wm_event.specs.Event.{key_of}
use Rattle.wm_event.specs.Log.{event_in}
use Rattle.wm_event.specs.LoggedRun.{LoggedRun}
use Rattle.wm_event.specs.Shape.{IsWellShaped}
use Rattle.wm_event.specs.Witness.{writers_in}
use Rattle.wm_event.proofs.LogLemmas.{event_in_thread}
use Rattle.wm_standard.specs.SharedEvents.{Reads, SharedEvent}
use Rattle.wm_standard.specs.SharedEvents.EventType.{ReadModifyWriteSharedMemory, ReadSharedMemory, WriteSharedMemory}
use Rattle.wm_standard.specs.SharedEvents.Order.{Init as InitOrder, SeqCst}
use Rattle.wm_standard.specs.CandidateExecution.{AgentEvents, CandidateExecution, IsEvent, IsShared}
use Rattle.wm_standard.specs.Relations.{ReadsFrom}
use Rattle.wm_standard.specs.Transcribed.{Operation, candidate_of, shared_of}
use Rattle.wm_standard.specs.InitialBytes.{ByteEvent, byte_agent_of, byte_candidate_of, byte_maker, byte_writers, initial_byte, inits_from, named_at, named_from}
use Rattle.wm_standard.specs.InitialBytes.ByteEvent.{InitAt, At as Of}
use Rattle.wm_standard.proofs.Events.{IsLogged, key-is, logged, map-at, shared-at}

-- ---- lists

pub inits-at : (a : ℕ) (bytes : List ℕ) (i : ℕ) → i < length bytes → slice_get (inits_from a bytes) i ≡ Some (InitAt (a + i))
inits-at a [] i l = absurd (omega (arith, l))
inits-at a (b ∷ bytes) zero l = let e : a ≡ a + 0 = omega arith in ap (λ n. Some (InitAt n)) e
inits-at a (b ∷ bytes) (suc i) l = let e : suc a + i ≡ a + suc i = omega arith in inits-at (suc a) bytes i (omega (arith, l)) ∙ ap (λ n. Some (InitAt n)) e

pub inits-are : (a : ℕ) (bytes : List ℕ) (i : ℕ) (e : ByteEvent) → slice_get (inits_from a bytes) i ≡ Some e → e ≡ InitAt (a + i)
inits-are a [] i e h = absurd (none-some e h)
inits-are a (b ∷ bytes) zero e h = let s : a ≡ a + 0 = omega arith in sym (same_Some (InitAt a) e h) ∙ ap InitAt s
inits-are a (b ∷ bytes) (suc i) e h = let s : suc a + i ≡ a + suc i = omega arith in inits-are (suc a) bytes i e h ∙ ap InitAt s

pub named-is : (a : ℕ) (ws : List EventId) (i : ℕ) (n : ByteEvent) → slice_get (named_from a ws) i ≡ Some n → (w : EventId) × (slice_get ws i ≡ Some w) × (named_at (a + i) w ≡ n)
named-is a [] i n h = absurd (none-some n h)
named-is a (w ∷ ws) zero n h = let e : a + 0 ≡ a = omega arith in (w, refl, ap (λ m. named_at m w) e ∙ same_Some (named_at a w) n h)
named-is a (w ∷ ws) (suc i) n h = let e : a + suc i ≡ suc a + i = omega arith in let r = named-is (suc a) ws i n h in (r.0, r.1, ap (λ m. named_at m r.0) e ∙ r.2)

pub named-has : (a : ℕ) (ws : List EventId) (i : ℕ) (w : EventId) → slice_get ws i ≡ Some w → slice_get (named_from a ws) i ≡ Some (named_at (a + i) w)
named-has a [] i w h = absurd (none-some w h)
named-has a (v ∷ ws) zero w h = let e : a ≡ a + 0 = omega arith in ap (λ w. Some (named_at a w)) (same_Some v w h) ∙ ap (λ m. Some (named_at m w)) e
named-has a (v ∷ ws) (suc i) w h = let e : suc a + i ≡ a + suc i = omega arith in named-has (suc a) ws i w h ∙ ap (λ m. Some (named_at m w)) e

pub length-named : (a : ℕ) (ws : List EventId) → length (named_from a ws) ≡ length ws
length-named a [] = refl
length-named a (w ∷ ws) = ap suc (length-named (suc a) ws)

-- an event of the log has its own name alone
pub named-log : (a : ℕ) (w : EventId) (u : EventKey) → named_at a w ≡ Of u → w ≡ At u
named-log a Init u h = absurd (cc)
named-log a (At v) u h = let k : v ≡ u = cc in ap At k

module _ (run : LoggedRun) (ops : EventKey → Operation) (shape : IsWellShaped run) where
  abbrev c : CandidateExecution EventId
  c = candidate_of run ops

  abbrev d : CandidateExecution ByteEvent
  d = byte_candidate_of run ops

  -- ---- events of the log

  pub is-byte-event : (key : EventKey) (e : Event) → event_in run.log key ≡ Some e → IsEvent (byte_candidate_of run ops) (Of key)
  is-byte-event key e there = option_and_then_some (λ (thread : ThreadLog). slice_get thread.events key.number) (slice_get run.log key.thread) e there
      (λ (thread : ThreadLog) at_thread at_event. (
        suc key.thread,
        byte_agent_of thread,
        key.number,
        slice_get-map byte_agent_of run.log key.thread ∙ ap (option_map byte_agent_of) at_thread,
        slice_get-map (λ (e : Event). Of (key_of e)) thread.events key.number ∙ ap (option_map (λ (e : Event). Of (key_of e))) at_event ∙ ap (λ k. Some (Of k)) (key-is run ops shape key e there),
      ))

  pub byte-shared-at : (key : EventKey) (e : Event) → event_in run.log key ≡ Some e → IsShared (byte_candidate_of run ops) (Of key) (shared_of (ops key) e)
  byte-shared-at key e there = record { event = is-byte-event key e there; fields = ap (option_map (shared_of (ops key))) there }

  pub to-bytes : (key : EventKey) (f : SharedEvent) → IsShared (candidate_of run ops) (At key) f → IsShared (byte_candidate_of run ops) (Of key) f
  to-bytes key f is = let l = logged run ops shape key f is in subst (IsShared (byte_candidate_of run ops) (Of key)) l.fields (byte-shared-at key l.event l.there)

  pub byte-logged : (key : EventKey) (f : SharedEvent) → IsShared (byte_candidate_of run ops) (Of key) f → IsLogged run ops shape key f
  byte-logged key f is = by (event_in run.log key) refl
    where
      by : (o : Option Event) → event_in run.log key ≡ o → IsLogged run ops shape key f
      by None at = let n = ap (option_map (shared_of (ops key))) at in absurd (none-some f (sym n ∙ is.fields))
      by (Some e) at = record { event = e; there = at; fields = same_Some (shared_of (ops key) e) f (sym (ap (option_map (shared_of (ops key))) at) ∙ is.fields) }

  pub to-whole : (key : EventKey) (f : SharedEvent) → IsShared (byte_candidate_of run ops) (Of key) f → IsShared (candidate_of run ops) (At key) f
  to-whole key f is = let l = byte-logged key f is in subst (IsShared (candidate_of run ops) (At key)) l.fields (shared-at run ops shape key l.event l.there)

  -- ---- Init events

  pub initial-shared : (a b : ℕ) → slice_get run.initial a ≡ Some b → IsShared (byte_candidate_of run ops) (InitAt a) (initial_byte a b)
  initial-shared a b at =
      let e : 0 + a ≡ a = omega arith in
      record {
        event = (0, byte_maker run.initial, a, refl, inits-at 0 run.initial a (slice_get_within run.initial a b at) ∙ ap (λ n. Some (InitAt n)) e);
        fields = ap (option_map (initial_byte a)) at;
      }

  pub record IsInitialByte (a : ℕ) (f : SharedEvent) : Type 0 where
    pub byte : ℕ
    pub there : slice_get run.initial a ≡ Some byte
    pub fields : initial_byte a byte ≡ f

  pub initial-byte : (a : ℕ) (f : SharedEvent) → IsShared (byte_candidate_of run ops) (InitAt a) f → IsInitialByte a f
  initial-byte a f is = by (slice_get run.initial a) refl
    where
      by : (o : Option ℕ) → slice_get run.initial a ≡ o → IsInitialByte a f
      by None at = let n = ap (option_map (initial_byte a)) at in absurd (none-some f (sym n ∙ is.fields))
      by (Some b) at = record { byte = b; there = at; fields = same_Some (initial_byte a b) f (sym (ap (option_map (initial_byte a)) at) ∙ is.fields) }

  pub byte-reads : (a : ℕ) (f : SharedEvent) → IsShared (byte_candidate_of run ops) (InitAt a) f → Reads f → ⊥
  byte-reads a f is does =
      let k : f.event_type ≡ WriteSharedMemory = ap (λ (f : SharedEvent). f.event_type) (sym (initial-byte a f is).fields) in
      ⊎_elim (λ (h : f.event_type ≡ ReadSharedMemory). cc) (λ (h : f.event_type ≡ ReadModifyWriteSharedMemory). cc) does

  pub byte-update : (a : ℕ) (f : SharedEvent) → IsShared (byte_candidate_of run ops) (InitAt a) f → f.event_type ≡ ReadModifyWriteSharedMemory → ⊥
  byte-update a f is h = let k : f.event_type ≡ WriteSharedMemory = ap (λ (f : SharedEvent). f.event_type) (sym (initial-byte a f is).fields) in cc

  pub byte-atomic : (a : ℕ) (f : SharedEvent) → IsShared (byte_candidate_of run ops) (InitAt a) f → f.order ≡ SeqCst → ⊥
  byte-atomic a f is h = let k : f.order ≡ InitOrder = ap (λ (f : SharedEvent). f.order) (sym (initial-byte a f is).fields) in cc

  -- ---- where an event stands

  pub data ByteStands (n i : ℕ) (e : ByteEvent) : Type 0 where
    made : n ≡ 0 → e ≡ InitAt i → ByteStands n i e
    of_log : (t : ℕ) (event : Event) → n ≡ suc t → event_in run.log (record { thread = t; number = i }) ≡ Some event → e ≡ Of (record { thread = t; number = i }) → ByteStands n i e

  pub byte-stands-at : (n i : ℕ) (r : AgentEvents ByteEvent) (e : ByteEvent) → slice_get (byte_maker run.initial ∷ map byte_agent_of run.log) n ≡ Some r → slice_get r.event_list i ≡ Some e → ByteStands n i e
  byte-stands-at zero i r e at_r at_e =
      let s : 0 + i ≡ i = omega arith in
      made refl (inits-are 0 run.initial i e (subst (λ (r : AgentEvents ByteEvent). slice_get r.event_list i ≡ Some e) (sym (same_Some (byte_maker run.initial) r at_r)) at_e) ∙ ap InitAt s)
  byte-stands-at (suc t) i r e at_r at_e =
      let thread = map-at byte_agent_of run.log t r at_r in
      let event = map-at (λ (e : Event). Of (key_of e)) thread.0.events i e (subst (λ (r : AgentEvents ByteEvent). slice_get r.event_list i ≡ Some e) (sym thread.2) at_e) in
      let there : event_in run.log (record { thread = t; number = i }) ≡ Some event.0 = event_in_thread run.log t i thread.0 thread.1 ∙ event.1 in
      of_log t event.0 refl there (sym event.2 ∙ ap Of (key-is run ops shape (record { thread = t; number = i }) event.0 there))

  -- ---- writers

  pub writers-are : (r : EventKey) (e : Event) → event_in run.log r ≡ Some e → byte_writers run (Of r) ≡ named_from e.address (writers_in run.witness r)
  writers-are r e there = ap (λ o. option_map_or (λ (e : Event). named_from e.address (writers_in run.witness r)) o []) there

  -- the writer of a byte that is read
  pub record Writer (r : EventKey) (f : SharedEvent) (i : ℕ) (n : ByteEvent) : Type 0 where
    pub writer : EventId
    pub at : slice_get (writers_in run.witness r) i ≡ Some writer
    pub named : named_at (f.byte_index + i) writer ≡ n

  pub writer-of : (r : EventKey) (f : SharedEvent) (i : ℕ) (n : ByteEvent) → IsShared (byte_candidate_of run ops) (Of r) f → slice_get (byte_writers run (Of r)) i ≡ Some n → Writer r f i n
  writer-of r f i n is at =
      let l = byte-logged r f is in
      let w = named-is l.event.address (writers_in run.witness r) i n (subst (λ ws. slice_get ws i ≡ Some n) (writers-are r l.event l.there) at) in
      record { writer = w.0; at = w.1; named = subst (λ (f : SharedEvent). named_at (f.byte_index + i) w.0 ≡ n) l.fields w.2 }

  pub has-writer : (r : EventKey) (e : Event) (i : ℕ) (w : EventId) → event_in run.log r ≡ Some e → slice_get (writers_in run.witness r) i ≡ Some w
      → slice_get (byte_writers run (Of r)) i ≡ Some (named_at (e.address + i) w)
  has-writer r e i w there at = subst (λ ws. slice_get ws i ≡ Some (named_at (e.address + i) w)) (sym (writers-are r e there)) (named-has e.address (writers_in run.witness r) i w at)

  pub from-whole : (r : EventKey) (e : Event) (i : ℕ) (w : EventId) → event_in run.log r ≡ Some e → slice_get (writers_in run.witness r) i ≡ Some w → Reads (shared_of (ops r) e)
      → ReadsFrom (byte_candidate_of run ops) (Of r) (named_at (e.address + i) w) (shared_of (ops r) e)
  from-whole r e i w there at does = record { reader = byte-shared-at r e there; reads = does; index = i; contains = has-writer r e i w there at }
