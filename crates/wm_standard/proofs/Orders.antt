-- Happens-before of a run and of its candidate execution.
use Rattle.std.proofs.Common.{◌≡◌, ℕ, zero, suc, ◌<◌, List, [], ◌∷◌, ◌++◌, Bool, true, false, map, length, slice_get, Some, IsTrue, refl, sym, ap, ◌∙◌, subst, subst₂, arith, inl, inr, ⊎_elim}
use Rattle.std.specs.Prelude.{if◌then◌else◌}
use Rattle.std.specs.Option.{option_map}
use Rattle.std.proofs.lemmas.Option.{same_Some, none-some, slice_get-map, slice_get_within, option_and_then_some}
use Rattle.wm_access.specs.AccessWidth.{bytes_of}
use Rattle.wm_event.specs.declared.event.Event.{Event}
use Rattle.wm_event.specs.declared.event.EventKey.{EventKey}
use Rattle.wm_event.specs.declared.event.EventId.{EventId}
use Rattle.wm_event.specs.declared.event.EventId.TheVariants.{Init, At}
use Rattle.wm_event.specs.declared.log.ThreadLog.{ThreadLog}
use Rattle.wm_event.specs.Event.{key_of, reads}
use Rattle.wm_event.specs.Execution.{Execution}
use Rattle.wm_event.specs.HappensBefore.{Chain, Edge, SequencedBefore}
use Rattle.wm_event.specs.HappensBefore.{HappensBefore as Before, SynchronizesWith as Synchronizes}
use Rattle.wm_event.specs.Log.{event_in}
use Rattle.wm_event.specs.LoggedRun.{LoggedRun, execution}
use Rattle.wm_event.specs.Shape.{IsWellShaped}
use Rattle.wm_event.specs.Witness.{writers_in}
use Rattle.wm_event.proofs.LogLemmas.{event_in_thread}
use Rattle.wm_standard.specs.SharedEvents.{HaveEqualRanges, HaveOverlappingRanges, SharedEvent}
use Rattle.wm_standard.specs.SharedEvents.Order.{Init as InitOrder, SeqCst}
use Rattle.wm_standard.specs.CandidateExecution.{AgentEvents, IsShared}
use Rattle.wm_standard.specs.Relations.{AgentOrder, HappensBefore, ReadsFrom, SynchronizesWith}
use Rattle.wm_standard.specs.Relations.HappensBefore.{in_agent, initial, synchronized, through}
use Rattle.wm_standard.specs.Relations.SynchronizesWith.{of_agent, of_host, of_memory}
use Rattle.wm_standard.specs.Transcribed.{Operation, agent_of, candidate_of, initial_event, maker, shared_of}
use Rattle.wm_standard.proofs.Events.Stands.{logged_at, made}
use Rattle.wm_standard.proofs.Events.{some_of, Stands, atomic-order, equal-from, equal-turned, initial-atomic, initial-is, is-initial, key-is, logged, logged-atomic, logged-equal, logged-not-initial, map-at, not-whole, reads-from, shared-at, some-is, stands-at, width-positive}

-- happens-before is transitive
before_join : (x : Execution) (a b c : EventId) → Before x a b → Before x b c → Before x a c
before_join x a b c h k = (h.0 ++ b ∷ k.0, join h.0 a h.1)
  where
    join : (ms : List EventId) (a : EventId) → Chain x a ms b → Chain x a (ms ++ b ∷ k.0) c
    join [] a e = (e, k.1)
    join (m ∷ ms) a e = (e.0, join ms m e.1)

read-within : (b : Bool) (n m k : ℕ) → m ≡ (if b then n else 0) → k < m → IsTrue b × (k < n)
read-within true n m k e l = (refl, omega (arith, e, l))
read-within false n m k e l = absurd (omega (arith, e, l))

module _ (run : LoggedRun) (ops : EventKey → Operation) (shape : IsWellShaped run) (large : 8 < length run.initial) where
  abbrev x : Execution
  x = execution run

  -- ---- program order

  agent-order-by : (n i m j : ℕ) (e d : EventId) → n ≡ m → i < j → Stands run ops shape n i e → Stands run ops shape m j d → Edge x e d
  agent-order-by n i m j e d one l (made p q h) (made p' q' h') = absurd (omega (arith, l, q, q'))
  agent-order-by n i m j e d one l (made p q h) (logged_at s f p' there' h') = absurd (omega (arith, one, p, p'))
  agent-order-by n i m j e d one l (logged_at t f p there h) (made p' q' h') = absurd (omega (arith, one, p, p'))
  agent-order-by n i m j e d one l (logged_at t f p there h) (logged_at s g p' there' h') =
      let same : t ≡ s = omega (arith, one, p, p') in
      subst₂ (Edge x) (sym h) (sym h') (inl (record {
        first = some_of (event_in run.log (record { thread = t; number = i })) f there;
        second = some_of (event_in run.log (record { thread = s; number = j })) g there';
        same_thread = same;
        earlier = l;
      }))

  agent-order-to : (e d : EventId) → AgentOrder (candidate_of run ops) e d → Edge x e d
  agent-order-to e d o = agent-order-by o.agent o.first o.agent o.second e d refl o.before
      (stands-at run ops shape o.agent o.first o.record_of e o.is_record o.is_first) (stands-at run ops shape o.agent o.second o.record_of d o.is_record o.is_second)

  agent-order-from : (a b : EventKey) → SequencedBefore x a b → AgentOrder (candidate_of run ops) (At a) (At b)
  agent-order-from a b s =
      let e = some-is (event_in run.log a) s.first in
      let f = some-is (event_in run.log b) s.second in
      let path : ◌≡◌ {A = EventKey} (record { thread = a.thread; number = b.number }) b = λ i. record { thread = s.same_thread i; number = b.number } in
      option_and_then_some (λ (thread : ThreadLog). slice_get thread.events a.number) (slice_get run.log a.thread) e.0 e.1
      (λ (thread : ThreadLog) at_thread at_e.
      let at_f : slice_get thread.events b.number ≡ Some f.0 = sym (event_in_thread run.log a.thread b.number thread at_thread) ∙ ap (event_in run.log) path ∙ f.1 in
      record {
        agent = suc a.thread;
        record_of = agent_of thread;
        is_record = slice_get-map agent_of run.log a.thread ∙ ap (option_map agent_of) at_thread;
        first = a.number;
        second = b.number;
        is_first = slice_get-map (λ (e : Event). At (key_of e)) thread.events a.number ∙ ap (option_map (λ (e : Event). At (key_of e))) at_e ∙ ap (λ k. Some (At k)) (key-is run ops shape a e.0 e.1);
        is_second = slice_get-map (λ (e : Event). At (key_of e)) thread.events b.number ∙ ap (option_map (λ (e : Event). At (key_of e))) at_f ∙ ap (λ k. Some (At k)) (key-is run ops shape b f.0 f.1);
        before = s.earlier;
      })

  -- ---- synchronizes-with

  pub memory-to : (w r : EventId) (g f : SharedEvent) → ReadsFrom (candidate_of run ops) r w f → IsShared (candidate_of run ops) w g → f.order ≡ SeqCst → g.order ≡ SeqCst → HaveEqualRanges f g
      → (a : EventKey) × (b : EventKey) × (w ≡ At a) × (r ≡ At b) × Synchronizes x a b
  memory-to Init r g f from is_w f_atomic g_atomic equal = absurd (initial-atomic run ops shape g is_w g_atomic)
  memory-to (At a) Init g f from is_w f_atomic g_atomic equal = absurd (initial-atomic run ops shape f from.reader f_atomic)
  memory-to (At a) (At b) g f from is_w f_atomic g_atomic equal =
      let l = logged run ops shape a g is_w in
      let m = logged run ops shape b f from.reader in (
        a,
        b,
        refl,
        refl,
        record {
          writer = l.event;
          reader = m.event;
          is_writer = l.there;
          is_reader = m.there;
          writer_atomic = logged-atomic run ops shape a g l g_atomic;
          reader_atomic = logged-atomic run ops shape b f m f_atomic;
          ranges = logged-equal run ops shape a b g f l m (equal-turned f g equal);
          reads = (from.index, from.contains);
        },
      )

  pub no-agent-pairs : (n i : ℕ) (r : AgentEvents EventId) (p : EventId × EventId) → slice_get (maker ∷ map agent_of run.log) n ≡ Some r → slice_get r.agent_synchronizes_with i ≡ Some p → ⊥
  no-agent-pairs zero i r p at_r at_p = none-some p (subst (λ (r : AgentEvents EventId). slice_get r.agent_synchronizes_with i ≡ Some p) (sym (same_Some maker r at_r)) at_p)
  no-agent-pairs (suc n) i r p at_r at_p =
      let thread = map-at agent_of run.log n r at_r in
      none-some p (subst (λ (r : AgentEvents EventId). slice_get r.agent_synchronizes_with i ≡ Some p) (sym thread.2) at_p)

  pub synchronizes-to : {w r : EventId} → SynchronizesWith (candidate_of run ops) w r → (a : EventKey) × (b : EventKey) × (w ≡ At a) × (r ≡ At b) × Synchronizes x a b
  synchronizes-to {w} {r} (of_memory g f from is_w f_atomic g_atomic equal) = memory-to w r g f from is_w f_atomic g_atomic equal
  synchronizes-to {w} {r} (of_agent n i q at_q at_p) = absurd (no-agent-pairs n i q (w, r) at_q at_p)
  synchronizes-to {w} {r} (of_host h) = absurd h

  pub reads-from-logged : (r : EventKey) (e : Event) (k : ℕ) (w : EventId) → event_in run.log r ≡ Some e → slice_get (writers_in run.witness r) k ≡ Some w → IsTrue (reads e)
      → ReadsFrom (candidate_of run ops) (At r) w (shared_of (ops r) e)
  reads-from-logged r e k w there at does = record { reader = shared-at run ops shape r e there; reads = reads-from (ops r) e does; index = k; contains = at }

  -- ---- happens-before

  initial-to : (e d : EventId) (f g : SharedEvent) → IsShared (candidate_of run ops) e f → IsShared (candidate_of run ops) d g → f.order ≡ InitOrder → HaveOverlappingRanges f g → Edge x e d
  initial-to (At a) d f g is_e is_d is overlap = absurd (logged-not-initial run ops shape a f is_e is)
  initial-to Init Init f g is_e is_d is overlap =
      let same : f ≡ g = sym (initial-is run ops shape f is_e) ∙ initial-is run ops shape g is_d in
      absurd (overlap.1 (subst (HaveEqualRanges f) same (refl, λ a. (λ h. h, λ h. h))))
  initial-to Init (At b) f g is_e is_d is overlap = let l = logged run ops shape b g is_d in some_of (event_in run.log b) l.event l.there

  edge : (e d : EventId) → Edge x e d → Before x e d
  edge e d h = ([], h)

  pub before-to : {e d : EventId} → HappensBefore HaveOverlappingRanges (candidate_of run ops) e d → Before x e d
  before-to {e} {d} (in_agent o) = edge e d (agent-order-to e d o)
  before-to {e} {d} (synchronized s) = let t = synchronizes-to s in edge e d (subst₂ (Edge x) (sym t.2) (sym t.3) (inr t.4))
  before-to {e} {d} (initial f g is_e is_d is apart overlap) = edge e d (initial-to e d f g is_e is_d is overlap)
  before-to {e} {d} (through {f = m} h k) = before_join x e m d (before-to h) (before-to k)

  -- the length of a list of writers says which events read
  pub some-read : (r : EventKey) (e : Event) (k : ℕ) (w : EventId) → event_in run.log r ≡ Some e → slice_get (writers_in run.witness r) k ≡ Some w
      → IsTrue (reads e) × (k < bytes_of e.width)
  some-read r e k w there at = read-within (reads e) (bytes_of e.width) (length (writers_in run.witness r)) k (shape.good r e there).count (slice_get_within (writers_in run.witness r) k w at)

  initial-overlaps : (b : EventKey) (e : Event) → event_in run.log b ≡ Some e → HaveOverlappingRanges (initial_event run.initial) (shared_of (ops b) e)
  initial-overlaps b e there =
      let inside = (shape.good b e there).in_memory in
      let p = width-positive e.width in
      ((refl, (e.address, (omega arith, omega (arith, inside, p)), (omega arith, omega (arith, p)))), not-whole run.initial (ops b) e large)

  pub synchronizes-from : (a b : EventKey) → Synchronizes x a b → SynchronizesWith (candidate_of run ops) (At a) (At b)
  synchronizes-from a b s =
      let does = some-read b s.reader s.reads.0 (At a) s.is_reader s.reads.1 in
      of_memory (shared_of (ops a) s.writer) (shared_of (ops b) s.reader) (reads-from-logged b s.reader s.reads.0 (At a) s.is_reader s.reads.1 does.0) (shared-at run ops shape a s.writer s.is_writer)
      (atomic-order (ops b) s.reader s.reader_atomic) (atomic-order (ops a) s.writer s.writer_atomic) (equal-from (ops b) (ops a) s.reader s.writer (sym s.ranges))

  edge-from : (e d : EventId) → Edge x e d → HappensBefore HaveOverlappingRanges (candidate_of run ops) e d
  edge-from Init Init h = absurd h
  edge-from Init (At b) h =
      let f = some-is (event_in run.log b) h in
      initial (initial_event run.initial) (shared_of (ops b) f.0) (is-initial run ops shape) (shared-at run ops shape b f.0 f.1) refl (λ s. cc) (initial-overlaps b f.0 f.1)
  edge-from (At a) Init h = absurd h
  edge-from (At a) (At b) h = ⊎_elim (λ (s : SequencedBefore x a b). in_agent (agent-order-from a b s)) (λ (s : Synchronizes x a b). synchronized (synchronizes-from a b s)) h

  chain-from : (between : List EventId) (e d : EventId) → Chain x e between d → HappensBefore HaveOverlappingRanges (candidate_of run ops) e d
  chain-from [] e d h = edge-from e d h
  chain-from (m ∷ ms) e d h = through (edge-from e m h.0) (chain-from ms m d h.1)

  pub before-from : (e d : EventId) → Before x e d → HappensBefore HaveOverlappingRanges (candidate_of run ops) e d
  before-from e d h = chain-from h.0 e d h.1
