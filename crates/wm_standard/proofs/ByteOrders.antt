-- Happens-before of a run and of its candidate execution with an Init event for each byte.
use Rattle.std.proofs.Common.{◌≡◌, ℕ, zero, suc, ◌+◌, ◌<◌, List, [], ◌∷◌, ◌++◌, map, get_or, length, slice_get, Some, IsSome, refl, sym, ap, ◌∙◌, subst, subst₂, arith, inl, inr, ⊎_elim}
use Rattle.std.specs.Option.{option_map}
use Rattle.std.proofs.lemmas.Option.{same_Some, none-some, slice_get-get_or, slice_get-map, option_and_then_some}
use Rattle.wm_event.specs.declared.event.Event.{Event}
use Rattle.wm_event.specs.declared.event.EventKey.{EventKey}
use Rattle.wm_event.specs.declared.event.EventId.{EventId}
use Rattle.wm_event.specs.declared.event.EventId.TheVariants.{Init, At}
use Rattle.wm_event.specs.declared.log.ThreadLog.{ThreadLog}
use Rattle.wm_event.specs.Event.{key_of}
use Rattle.wm_event.specs.Execution.{Execution}
use Rattle.wm_event.specs.HappensBefore.{Chain, Edge, SequencedBefore}
use Rattle.wm_event.specs.HappensBefore.{HappensBefore as Before, SynchronizesWith as Synchronizes}
use Rattle.wm_event.specs.Log.{event_in}
use Rattle.wm_event.specs.LoggedRun.{LoggedRun, execution}
use Rattle.wm_event.specs.Shape.{IsWellShaped}
use Rattle.wm_event.proofs.LogLemmas.{event_in_thread}
use Rattle.wm_standard.specs.SharedEvents.{HaveCommonBytes, HaveEqualRanges, InRange, SharedEvent}
use Rattle.wm_standard.specs.SharedEvents.Order.{Init as InitOrder, SeqCst}
use Rattle.wm_standard.specs.CandidateExecution.{AgentEvents, CandidateExecution, IsShared}
use Rattle.wm_standard.specs.Relations.{AgentOrder, HappensBefore, ReadsFrom, SynchronizesWith}
use Rattle.wm_standard.specs.Relations.HappensBefore.{in_agent, initial, synchronized, through}
use Rattle.wm_standard.specs.Relations.SynchronizesWith.{of_agent, of_host, of_memory}
use Rattle.wm_standard.specs.Transcribed.{Operation, candidate_of, shared_of}
use Rattle.wm_standard.specs.InitialBytes.{ByteEvent, byte_agent_of, byte_candidate_of, byte_maker, initial_byte}
use Rattle.wm_standard.specs.InitialBytes.ByteEvent.{InitAt, At as Of}
use Rattle.wm_standard.proofs.Events.{atomic-order, equal-from, key-is, map-at, logged-not-initial, reads-from, some-is, some_of}
use Rattle.wm_standard.proofs.Orders.{memory-to, some-read}
use Rattle.wm_standard.proofs.ByteEvents.{ByteStands, byte-atomic, byte-logged, byte-reads, byte-shared-at, byte-stands-at, from-whole, initial-byte, initial-shared, named-log, to-whole, writer-of}
use Rattle.wm_standard.proofs.ByteEvents.ByteStands.{made, of_log}

-- ---- chains of happens-before

-- nothing happens before Init
pub before-init : (x : Execution) (a : EventId) → Before x a Init → ⊥
before-init x a h = by h.0 a h.1
  where
    edge : (a : EventId) → Edge x a Init → ⊥
    edge Init h = h
    edge (At a) h = h

    by : (ms : List EventId) (a : EventId) → Chain x a ms Init → ⊥
    by [] a h = edge a h
    by (m ∷ ms) a h = by ms m h.1

-- what something happens before is an event
pub before-there : (x : Execution) (a : EventId) (b : EventKey) → Before x a (At b) → IsSome (x.event_of b)
before-there x a b h = by h.0 a h.1
  where
    edge : (a : EventId) → Edge x a (At b) → IsSome (x.event_of b)
    edge Init h = h
    edge (At a) h = ⊎_elim (λ (s : SequencedBefore x a b). s.second) (λ (s : Synchronizes x a b). some_of (x.event_of b) s.reader s.is_reader) h

    by : (ms : List EventId) (a : EventId) → Chain x a ms (At b) → IsSome (x.event_of b)
    by [] a h = edge a h
    by (m ∷ ms) a h = by ms m h.1

pub before-join : (x : Execution) (a b c : EventId) → Before x a b → Before x b c → Before x a c
before-join x a b c h k = (h.0 ++ b ∷ k.0, join h.0 a h.1)
  where
    join : (ms : List EventId) (a : EventId) → Chain x a ms b → Chain x a (ms ++ b ∷ k.0) c
    join [] a e = (e, k.1)
    join (m ∷ ms) a e = (e.0, join ms m e.1)

module _ (run : LoggedRun) (ops : EventKey → Operation) (shape : IsWellShaped run) (large : 8 < length run.initial) where
  abbrev x : Execution
  x = execution run

  abbrev d : CandidateExecution ByteEvent
  d = byte_candidate_of run ops

  -- what happens before an event in the candidate execution, in terms of the run
  abbrev pub Below : ByteEvent → ByteEvent → Type 0
  Below (InitAt a) (InitAt b) = a < b
  Below (InitAt a) (Of b) = IsSome (event_in run.log b)
  Below (Of a) (InitAt b) = ⊥
  Below (Of a) (Of b) = Before (execution run) (At a) (At b)

  below-join : (e f g : ByteEvent) → Below e f → Below f g → Below e g
  below-join (InitAt a) (InitAt b) (InitAt n) h k = omega (arith, h, k)
  below-join (InitAt a) (InitAt b) (Of n) h k = k
  below-join (InitAt a) (Of b) (InitAt n) h k = absurd k
  below-join (InitAt a) (Of b) (Of n) h k = before-there x (At b) n k
  below-join (Of a) (InitAt b) g h k = absurd h
  below-join (Of a) (Of b) (InitAt n) h k = absurd k
  below-join (Of a) (Of b) (Of n) h k = before-join x (At a) (At b) (At n) h k

  -- ---- program order

  in-agent-by : (n i m j : ℕ) (e f : ByteEvent) → n ≡ m → i < j → ByteStands run ops shape n i e → ByteStands run ops shape m j f → Below e f
  in-agent-by n i m j e f one l (made p h) (made p' h') = subst₂ Below (sym h) (sym h') l
  in-agent-by n i m j e f one l (made p h) (of_log t g p' there' h') = absurd (omega (arith, one, p, p'))
  in-agent-by n i m j e f one l (of_log t g p there h) (made p' h') = absurd (omega (arith, one, p, p'))
  in-agent-by n i m j e f one l (of_log t g p there h) (of_log s g' p' there' h') =
      let same : t ≡ s = omega (arith, one, p, p') in
      subst₂ Below (sym h) (sym h') (
        [],
        inl (record {
          first = some_of (event_in run.log (record { thread = t; number = i })) g there;
          second = some_of (event_in run.log (record { thread = s; number = j })) g' there';
          same_thread = same;
          earlier = l;
        }),
      )

  in-agent-from : (a b : EventKey) → SequencedBefore x a b → AgentOrder (byte_candidate_of run ops) (Of a) (Of b)
  in-agent-from a b s =
      let e = some-is (event_in run.log a) s.first in
      let f = some-is (event_in run.log b) s.second in
      let path : ◌≡◌ {A = EventKey} (record { thread = a.thread; number = b.number }) b = λ i. record { thread = s.same_thread i; number = b.number } in
      option_and_then_some (λ (thread : ThreadLog). slice_get thread.events a.number) (slice_get run.log a.thread) e.0 e.1
      (λ (thread : ThreadLog) at_thread at_e.
      let at_f : slice_get thread.events b.number ≡ Some f.0 = sym (event_in_thread run.log a.thread b.number thread at_thread) ∙ ap (event_in run.log) path ∙ f.1 in
      record {
        agent = suc a.thread;
        record_of = byte_agent_of thread;
        is_record = slice_get-map byte_agent_of run.log a.thread ∙ ap (option_map byte_agent_of) at_thread;
        first = a.number;
        second = b.number;
        is_first = slice_get-map (λ (e : Event). Of (key_of e)) thread.events a.number ∙ ap (option_map (λ (e : Event). Of (key_of e))) at_e ∙ ap (λ k. Some (Of k)) (key-is run ops shape a e.0 e.1);
        is_second = slice_get-map (λ (e : Event). Of (key_of e)) thread.events b.number ∙ ap (option_map (λ (e : Event). Of (key_of e))) at_f ∙ ap (λ k. Some (Of k)) (key-is run ops shape b f.0 f.1);
        before = s.earlier;
      })

  -- ---- synchronizes-with

  pub record Synchronized (w r : ByteEvent) : Type 0 where
    pub writer : EventKey
    pub reader : EventKey
    pub is_writer : w ≡ Of writer
    pub is_reader : r ≡ Of reader
    pub synchronizes : Synchronizes (execution run) writer reader

  sync-memory : (w r : ByteEvent) (g f : SharedEvent) → ReadsFrom (byte_candidate_of run ops) r w f → IsShared (byte_candidate_of run ops) w g → f.order ≡ SeqCst → g.order ≡ SeqCst → HaveEqualRanges f g → Synchronized w r
  sync-memory w (InitAt b) g f from is_w f_atomic g_atomic equal = absurd (byte-reads run ops shape b f from.reader from.reads)
  sync-memory (InitAt a) (Of b) g f from is_w f_atomic g_atomic equal = absurd (byte-atomic run ops shape a g is_w g_atomic)
  sync-memory (Of a) (Of b) g f from is_w f_atomic g_atomic equal =
      let w = writer-of run ops shape b f from.index (Of a) from.reader from.contains in
      let is = named-log (f.byte_index + from.index) w.writer a w.named in
      let whole : ReadsFrom (candidate_of run ops) (At b) (At a) f =
      record { reader = to-whole run ops shape b f from.reader; reads = from.reads; index = from.index; contains = w.at ∙ ap Some is } in
      let t = memory-to run ops shape large (At a) (At b) g f whole (to-whole run ops shape a g is_w) f_atomic g_atomic equal in
      record { writer = t.0; reader = t.1; is_writer = (let h : At a ≡ At t.0 = t.2 in let k : a ≡ t.0 = cc in ap Of k); is_reader = (let h : At b ≡ At t.1 = t.3 in let k : b ≡ t.1 = cc in ap Of k); synchronizes = t.4 }

  pub no-pairs : (n i : ℕ) (r : AgentEvents ByteEvent) (p : ByteEvent × ByteEvent) → slice_get (byte_maker run.initial ∷ map byte_agent_of run.log) n ≡ Some r → slice_get r.agent_synchronizes_with i ≡ Some p → ⊥
  no-pairs zero i r p at_r at_p = none-some p (subst (λ (r : AgentEvents ByteEvent). slice_get r.agent_synchronizes_with i ≡ Some p) (sym (same_Some (byte_maker run.initial) r at_r)) at_p)
  no-pairs (suc n) i r p at_r at_p =
      let thread = map-at byte_agent_of run.log n r at_r in
      none-some p (subst (λ (r : AgentEvents ByteEvent). slice_get r.agent_synchronizes_with i ≡ Some p) (sym thread.2) at_p)

  pub sync-to : {w r : ByteEvent} → SynchronizesWith (byte_candidate_of run ops) w r → Synchronized w r
  sync-to {w} {r} (of_memory g f from is_w f_atomic g_atomic equal) = sync-memory w r g f from is_w f_atomic g_atomic equal
  sync-to {w} {r} (of_agent n i q at_q at_p) = absurd (no-pairs n i q (w, r) at_q at_p)
  sync-to {w} {r} (of_host h) = absurd h

  pub sync-from : (a b : EventKey) → Synchronizes x a b → SynchronizesWith (byte_candidate_of run ops) (Of a) (Of b)
  sync-from a b s =
      let does = some-read run ops shape large b s.reader s.reads.0 (At a) s.is_reader s.reads.1 in
      of_memory (shared_of (ops a) s.writer) (shared_of (ops b) s.reader) (from-whole run ops shape b s.reader s.reads.0 (At a) s.is_reader s.reads.1 (reads-from (ops b) s.reader does.0)) (byte-shared-at run ops shape a s.writer s.is_writer)
      (atomic-order (ops b) s.reader s.reader_atomic) (atomic-order (ops a) s.writer s.writer_atomic) (equal-from (ops b) (ops a) s.reader s.writer (sym s.ranges))

  -- ---- happens-before

  initial-below : (e f : ByteEvent) (g h : SharedEvent) → IsShared (byte_candidate_of run ops) e g → IsShared (byte_candidate_of run ops) f h → g.order ≡ InitOrder → (e ≡ f → ⊥) → HaveCommonBytes g h → Below e f
  initial-below (Of a) f g h is_e is_f is apart common = absurd (logged-not-initial run ops shape a g (to-whole run ops shape a g is_e) is)
  initial-below (InitAt a) (Of b) g h is_e is_f is apart common = let l = byte-logged run ops shape b h is_f in some_of (event_in run.log b) l.event l.there
  initial-below (InitAt a) (InitAt b) g h is_e is_f is apart common =
      let p : InRange (initial_byte a (initial-byte run ops shape a g is_e).byte) common.1.0 = subst (λ g. InRange g common.1.0) (sym (initial-byte run ops shape a g is_e).fields) common.1.1 in
      let q : InRange (initial_byte b (initial-byte run ops shape b h is_f).byte) common.1.0 = subst (λ g. InRange g common.1.0) (sym (initial-byte run ops shape b h is_f).fields) common.1.2 in
      let low = p.0 in
      let high = p.1 in
      let low' = q.0 in
      let high' = q.1 in
      let same : a ≡ b = omega (arith, low, high, low', high') in
      absurd (apart (ap InitAt same))

  pub below : {e f : ByteEvent} → HappensBefore HaveCommonBytes (byte_candidate_of run ops) e f → Below e f
  below {e} {f} (in_agent o) = in-agent-by o.agent o.first o.agent o.second e f refl o.before
      (byte-stands-at run ops shape o.agent o.first o.record_of e o.is_record o.is_first) (byte-stands-at run ops shape o.agent o.second o.record_of f o.is_record o.is_second)
  below {e} {f} (synchronized s) = let t = sync-to s in subst₂ Below (sym t.is_writer) (sym t.is_reader) ([], inr t.synchronizes)
  below {e} {f} (initial g h is_e is_f is apart common) = initial-below e f g h is_e is_f is apart common
  below {e} {f} (through {f = m} h k) = below-join e m f (below h) (below k)

  edge-above : (a b : EventKey) → Edge x (At a) (At b) → HappensBefore HaveCommonBytes (byte_candidate_of run ops) (Of a) (Of b)
  edge-above a b h = ⊎_elim (λ (s : SequencedBefore x a b). in_agent (in-agent-from a b s)) (λ (s : Synchronizes x a b). synchronized (sync-from a b s)) h

  chain-above : (ms : List EventId) (a b : EventKey) → Chain x (At a) ms (At b) → HappensBefore HaveCommonBytes (byte_candidate_of run ops) (Of a) (Of b)
  chain-above [] a b h = edge-above a b h
  chain-above (Init ∷ ms) a b h = absurd h.0
  chain-above (At m ∷ ms) a b h = through (edge-above a m h.0) (chain-above ms m b h.1)

  pub above : (a b : EventKey) → Before x (At a) (At b) → HappensBefore HaveCommonBytes (byte_candidate_of run ops) (Of a) (Of b)
  above a b h = chain-above h.0 a b h.1

  -- the Init event of a byte happens before each event of the log that accesses it
  pub initial-above : (a : ℕ) (b : EventKey) (e : Event) → event_in run.log b ≡ Some e → InRange (shared_of (ops b) e) a → HappensBefore HaveCommonBytes (byte_candidate_of run ops) (InitAt a) (Of b)
  initial-above a b e there within =
      let inside = (shape.good b e there).in_memory in
      let high = within.1 in
      let byte = slice_get-get_or run.initial a 0 (omega (arith, inside, high)) in
      initial (initial_byte a (get_or run.initial a 0)) (shared_of (ops b) e) (initial-shared run ops shape a (get_or run.initial a 0) byte) (byte-shared-at run ops shape b e there) refl (λ s. cc)
      (refl, (a, (omega arith, omega arith), within))
