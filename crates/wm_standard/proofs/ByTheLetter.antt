-- Two updates of one byte that both read Init.
use Rattle.std.proofs.Common.{◌≡◌, ℕ, zero, suc, ◌+◌, ◌-◌, ◌<◌, ◌≤◌, [], ◌∷◌, length, slice_get, Some, IsSome, map, refl, sym, ap, ◌∙◌, subst, subst₂, arith, inl, ⊎_elim}
use Rattle.std.specs.Prelude.{All}
use Rattle.std.proofs.lemmas.Bool.{cases_lt, false≢true}
use Rattle.std.proofs.lemmas.Option.{none-some, same_Some}
use Rattle.wm_access.specs.declared.AccessWidth.TheVariants.{One}
use Rattle.wm_access.specs.declared.MemoryOrder.TheVariants.{SeqCst}
use Rattle.wm_event.specs.declared.event.Event.{Event}
use Rattle.wm_event.specs.declared.event.EventKey.{EventKey}
use Rattle.wm_event.specs.declared.event.EventKind.TheVariants.{Update}
use Rattle.wm_event.specs.declared.event.EventId.TheVariants.{Init, At}
use Rattle.wm_event.specs.declared.log.End.TheVariants.{Cut}
use Rattle.wm_event.specs.declared.log.ThreadLog.{ThreadLog}
use Rattle.wm_event.specs.Execution.{Execution}
use Rattle.wm_event.specs.Log.{event_in}
use Rattle.wm_event.specs.LoggedRun.{LoggedRun, execution}
use Rattle.wm_event.specs.Rules.Overtakes.{read_past as past}
use Rattle.wm_event.specs.Shape.{IsGoodEvent, IsThere, IsWellShaped, ListsEachOnce}
use Rattle.wm_event.specs.Witness.{writers_in}
use Rattle.wm_event.proofs.PlaceLemmas.{position_listed}
use Rattle.wm_standard.specs.SharedEvents.{HaveEqualRanges, HaveOverlappingRanges, InRange, Reads, SharedEvent, Writes}
use Rattle.wm_standard.specs.SharedEvents.EventType.{ReadModifyWriteSharedMemory}
use Rattle.wm_standard.specs.SharedEvents.Order.{Init as InitOrder, SeqCst as Atomic}
use Rattle.wm_standard.specs.CandidateExecution.{CandidateExecution, IsShared}
use Rattle.wm_standard.specs.Relations.{HappensBefore, ReadsFrom, SynchronizesWith}
use Rattle.wm_standard.specs.Relations.HappensBefore.{in_agent, initial, synchronized as synchronizes, through}
use Rattle.wm_standard.specs.Relations.SynchronizesWith.{of_agent, of_host, of_memory}
use Rattle.wm_standard.specs.Value.{ValueOfReadEvent}
use Rattle.wm_standard.specs.Value.ValueOfReadEvent.{composed}
use Rattle.wm_standard.specs.ValidExecution.{IsValidExecution, Overtakes}
use Rattle.wm_standard.specs.ValidExecution.Overtakes.{read_past, synchronized, written_over}
use Rattle.wm_standard.specs.Agreement.{IsValidInSomeOrder, with_order}
use Rattle.wm_standard.specs.Transcribed.{AreOperations, Operation, shared_of}
use Rattle.wm_standard.specs.InitialBytes.{ByteEvent, LetterAllowsMore, byte_candidate_of, byte_order_of, byte_value, byte_writers, initial_byte}
use Rattle.wm_standard.specs.InitialBytes.ByteEvent.{InitAt, At as Of}
use Rattle.wm_standard.proofs.Events.{logged-not-initial, some_of}
use Rattle.wm_standard.proofs.RecordedLaw.{has-operations}
use Rattle.wm_standard.proofs.ByteEvents.{ByteStands, byte-atomic, byte-logged, byte-reads, byte-stands-at, byte-update, initial-byte, initial-shared, to-whole}
use Rattle.wm_standard.proofs.ByteEvents.ByteStands.{made, of_log}
use Rattle.wm_standard.proofs.ByteOrders.{no-pairs}
use Rattle.wm_standard.proofs.ByteAgreement.{in-list, order-irreflexive, order-total, order-transitive}

abbrev key : ℕ → EventKey
key t = record { thread = t; number = 0 }

abbrev update : ℕ → Event
update t = record { thread = t; number = 0; kind = Update; order = SeqCst; address = 0; width = One; read = 0; written = 1 }

abbrev thread : ℕ → ThreadLog
thread t = record { start = record { name = []; args = [] }; end = Cut; steps = 1; events = update t ∷ [] }

abbrev run : LoggedRun
run = record {
  log = thread 0 ∷ thread 1 ∷ [];
  witness = record { writers = ((Init ∷ []) ∷ []) ∷ ((Init ∷ []) ∷ []) ∷ []; order = key 0 ∷ key 1 ∷ [] };
  initial = 0 ∷ 0 ∷ 0 ∷ 0 ∷ 0 ∷ 0 ∷ 0 ∷ 0 ∷ 0 ∷ [];
}

-- ---- the run is well shaped

which : (t n : ℕ) (e : Event) → event_in run.log (record { thread = t; number = n }) ≡ Some e → (t < 2) × (n ≡ 0) × (update t ≡ e)
which zero zero e h = (omega arith, refl, same_Some (update 0) e h)
which zero (suc n) e h = absurd (none-some e h)
which (suc zero) zero e h = (omega arith, refl, same_Some (update 1) e h)
which (suc zero) (suc n) e h = absurd (none-some e h)
which (suc (suc t)) n e h = absurd (none-some e h)

there : (t n : ℕ) → t < 2 → n ≡ 0 → IsSome (event_in run.log (record { thread = t; number = n }))
there t (suc n) h k = absurd (omega (arith, k))
there zero zero h k = refl
there (suc zero) zero h k = refl
there (suc (suc t)) zero h k = absurd (omega (arith, h))

order : ListsEachOnce run.log run.witness.order
order = record {
  listed = λ q h. listed q.thread q.number h;
  events = λ m q h. let l = at m q h in there q.thread q.number l.0 l.1;
  once = λ m n q h k. (at m q h).2 ∙ sym (at n q k).2;
}
  where
    at : (m : ℕ) (q : EventKey) → slice_get run.witness.order m ≡ Some q → (q.thread < 2) × (q.number ≡ 0) × (m ≡ q.thread)
    at zero q h = let s = same_Some (key 0) q h in let t = ap (λ (q : EventKey). q.thread) s in (omega (arith, t), ap (λ (q : EventKey). q.number) (sym s), t)
    at (suc zero) q h = let s = same_Some (key 1) q h in let t = ap (λ (q : EventKey). q.thread) s in (omega (arith, t), ap (λ (q : EventKey). q.number) (sym s), t)
    at (suc (suc m)) q h = absurd (none-some q h)

    listed : (t n : ℕ) → IsSome (event_in run.log (record { thread = t; number = n })) → (m : ℕ) × (slice_get run.witness.order m ≡ Some (record { thread = t; number = n }))
    listed zero zero h = (0, refl)
    listed zero (suc n) h = absurd (false≢true h)
    listed (suc zero) zero h = (1, refl)
    listed (suc zero) (suc n) h = absurd (false≢true h)
    listed (suc (suc t)) n h = absurd (false≢true h)

good : (t n : ℕ) (e : Event) → event_in run.log (record { thread = t; number = n }) ≡ Some e → IsGoodEvent run.log run.initial e (writers_in run.witness (record { thread = t; number = n }))
good zero zero e h = subst (λ e. IsGoodEvent run.log run.initial e (Init ∷ [])) (same_Some (update 0) e h) (record { in_memory = omega arith; fits = (omega arith, omega arith); count = refl; there = only })
  where
    only : All (IsThere run.log) (Init ∷ [])
    only zero d l = tt
    only (suc k) d l = absurd (omega (arith, l))
good zero (suc n) e h = absurd (none-some e h)
good (suc zero) zero e h = subst (λ e. IsGoodEvent run.log run.initial e (Init ∷ [])) (same_Some (update 1) e h) (record { in_memory = omega arith; fits = (omega arith, omega arith); count = refl; there = only })
  where
    only : All (IsThere run.log) (Init ∷ [])
    only zero d l = tt
    only (suc k) d l = absurd (omega (arith, l))
good (suc zero) (suc n) e h = absurd (none-some e h)
good (suc (suc t)) n e h = absurd (none-some e h)

shaped : IsWellShaped run
shaped = record {
  keys = λ q e h. let w = which q.thread q.number e h in (ap (λ (e : Event). e.thread) (sym w.2), ap (λ (e : Event). e.number) (sym w.2) ∙ sym w.1);
  few = omega arith;
  counts = refl;
  good = λ q e h. good q.thread q.number e h;
  order = order;
}

large : 8 < length run.initial
large = omega arith

-- ---- by the letter it is a valid execution

module _ (ops : EventKey → Operation) (fitting : AreOperations run ops) where
  abbrev d : CandidateExecution ByteEvent
  d = byte_candidate_of run ops

  -- the byte that is read
  source : (t n i : ℕ) (w : ByteEvent) → slice_get (byte_writers run (Of (record { thread = t; number = n }))) i ≡ Some w → (i ≡ 0) × (w ≡ InitAt 0)
  source zero zero zero w h = (refl, sym (same_Some (InitAt 0) w h))
  source zero zero (suc i) w h = absurd (none-some w h)
  source zero (suc n) i w h = absurd (none-some w h)
  source (suc zero) zero zero w h = (refl, sym (same_Some (InitAt 0) w h))
  source (suc zero) zero (suc i) w h = absurd (none-some w h)
  source (suc zero) (suc n) i w h = absurd (none-some w h)
  source (suc (suc t)) n i w h = absurd (none-some w h)

  -- the fields of an update
  record IsUpdate (q : EventKey) (f : SharedEvent) : Type 0 where
    number : q.number ≡ 0
    few : q.thread < 2
    fields : shared_of (ops q) (update q.thread) ≡ f

  is-update : (q : EventKey) (f : SharedEvent) → IsShared d (Of q) f → IsUpdate q f
  is-update q f is =
      let l = byte-logged run ops shaped q f is in
      let w = which q.thread q.number l.event l.there in
      record { number = w.1; few = w.0; fields = ap (shared_of (ops q)) w.2 ∙ l.fields }

  -- only Init events happen before others, and only before Init events
  record Initially (e f : ByteEvent) : Type 0 where
    a : ℕ
    b : ℕ
    first : e ≡ InitAt a
    second : f ≡ InitAt b
    rises : a < b

  by-agent : (n i m j : ℕ) (e f : ByteEvent) → n ≡ m → i < j → ByteStands run ops shaped n i e → ByteStands run ops shaped m j f → Initially e f
  by-agent n i m j e f one l (made p h) (made p' h') = record { a = i; b = j; first = h; second = h'; rises = l }
  by-agent n i m j e f one l s (of_log t g p there h) = let z = (which t j g there).1 in absurd (omega (arith, z, l))
  by-agent n i m j e f one l (of_log t g p there h) (made p' h') = absurd (omega (arith, one, p, p'))

  by-memory : (w r : ByteEvent) (g f : SharedEvent) → ReadsFrom d r w f → IsShared d w g → g.order ≡ Atomic → ⊥
  by-memory w (InitAt b) g f from is_w atomic = byte-reads run ops shaped b f from.reader from.reads
  by-memory w (Of q) g f from is_w atomic =
      let s = (source q.thread q.number from.index w from.contains).1 in
      byte-atomic run ops shaped 0 g (subst (λ w. IsShared d w g) s is_w) atomic

  by-init : (e f : ByteEvent) (g h : SharedEvent) → IsShared d e g → IsShared d f h → g.order ≡ InitOrder → (e ≡ f → ⊥) → HaveOverlappingRanges g h → Initially e f
  by-init (Of q) f g h is_e is_f is apart o = absurd (logged-not-initial run ops shaped q g (to-whole run ops shaped q g is_e) is)
  by-init (InitAt a) (InitAt b) g h is_e is_f is apart o =
      let k = initial-byte run ops shaped a g is_e in
      let l = initial-byte run ops shaped b h is_f in
      let p = subst (λ g. InRange g o.0.1.0) (sym k.fields) o.0.1.1 in
      let q = subst (λ g. InRange g o.0.1.0) (sym l.fields) o.0.1.2 in
      let low = p.0 in
      let high = p.1 in
      let low' = q.0 in
      let high' = q.1 in
      let same : a ≡ b = omega (arith, low, high, low', high') in
      absurd (apart (ap InitAt same))
  by-init (InitAt a) (Of q) g h is_e is_f is apart o =
      let k = initial-byte run ops shaped a g is_e in
      let u = is-update q h is_f in
      let p : InRange (initial_byte a k.byte) o.0.1.0 = subst (λ g. InRange g o.0.1.0) (sym k.fields) o.0.1.1 in
      let p' : InRange (shared_of (ops q) (update q.thread)) o.0.1.0 = subst (λ g. InRange g o.0.1.0) (sym u.fields) o.0.1.2 in
      let low = p.0 in
      let high = p.1 in
      let low' = p'.0 in
      let high' = p'.1 in
      let z : a ≡ 0 = omega (arith, low, high, low', high') in
      let equal : HaveEqualRanges (initial_byte a k.byte) (shared_of (ops q) (update q.thread)) =
      (refl, λ b. (λ r. let m = r.0 in let n = r.1 in (omega (arith, m, z), omega (arith, n, z)), λ r. let m = r.0 in let n = r.1 in (omega (arith, m, z), omega (arith, n, z)))) in
      absurd (o.1 (subst (λ h. HaveEqualRanges g h) u.fields (subst (λ g. HaveEqualRanges g (shared_of (ops q) (update q.thread))) k.fields equal)))

  initially : {e f : ByteEvent} → HappensBefore HaveOverlappingRanges d e f → Initially e f
  initially {e} {f} (in_agent o) = by-agent o.agent o.first o.agent o.second e f refl o.before
      (byte-stands-at run ops shaped o.agent o.first o.record_of e o.is_record o.is_first) (byte-stands-at run ops shaped o.agent o.second o.record_of f o.is_record o.is_second)
  initially {e} {f} (synchronizes s) = by-sync s
    where
      by-sync : {w r : ByteEvent} → SynchronizesWith d w r → Initially w r
      by-sync {w} {r} (of_memory g f from is_w f_atomic g_atomic equal) = absurd (by-memory w r g f from is_w g_atomic)
      by-sync {w} {r} (of_agent n i q at_q at_p) = absurd (no-pairs run ops shaped large n i q (w, r) at_q at_p)
      by-sync (of_host h) = absurd h
  initially {e} {f} (initial g h is_e is_f is apart o) = by-init e f g h is_e is_f is apart o
  initially {e} {f} (through {f = m} h k) =
      let p = initially h in
      let q = initially k in
      let one : p.b ≡ q.a = let s : InitAt p.b ≡ InitAt q.a = sym p.second ∙ q.first in cc in
      let l = p.rises in
      let n = q.rises in
      record { a = p.a; b = q.b; first = p.first; second = q.second; rises = omega (arith, one, l, n) }

  never-after : (e : ByteEvent) (q : EventKey) → HappensBefore HaveOverlappingRanges d e (Of q) → ⊥
  never-after e q h = let s = (initially h).second in cc

  never-before : (q : EventKey) (e : ByteEvent) → HappensBefore HaveOverlappingRanges d (Of q) e → ⊥
  never-before q e h = let s = (initially h).first in cc

  chosen : (q : EventKey) (f : SharedEvent) → IsShared d (Of q) f → ValueOfReadEvent d (Of q) (byte_value run (Of q))
  chosen q f is =
      let l = byte-logged run ops shaped q f is in
      let w = which q.thread q.number l.event l.there in
      by q.thread q.number w.0 w.1 (subst (λ n. IsShared d (Of (record { thread = q.thread; number = n })) f) w.1 is)
    where
      value : (q : EventKey) (f : SharedEvent) → IsShared d (Of q) f → slice_get (byte_writers run (Of q)) 0 ≡ Some (InitAt 0) → length (byte_writers run (Of q)) ≡ 1 → ValueOfReadEvent d (Of q) (0 ∷ [])
      value q f is at size = composed f (λ i. []) is (sym size)
          (λ i b w g at_w is_w at_b kind. left i b w g (source q.thread q.number i w at_w) is_w at_b)
          (λ i w g at_w is_w kind. absurd (not-update i w g (source q.thread q.number i w at_w) is_w kind))
          (λ i b w g at_w is_w at_b kind. absurd (not-update i w g (source q.thread q.number i w at_w) is_w kind))
        where
          not-update : (i : ℕ) (w : ByteEvent) (g : SharedEvent) → (i ≡ 0) × (w ≡ InitAt 0) → IsShared d w g → g.event_type ≡ ReadModifyWriteSharedMemory → ⊥
          not-update i w g s is_w kind = byte-update run ops shaped 0 g (subst (λ w. IsShared d w g) s.1 is_w) kind

          left : (i b : ℕ) (w : ByteEvent) (g : SharedEvent) → (i ≡ 0) × (w ≡ InitAt 0) → IsShared d w g → slice_get (0 ∷ []) i ≡ Some b → slice_get g.payload (f.byte_index + i - g.byte_index) ≡ Some b
          left i b w g s is_w at_b =
              let k = initial-byte run ops shaped 0 g (subst (λ w. IsShared d w g) s.1 is_w) in
              let u = is-update q f is in
              let start : 0 ≡ f.byte_index = ap (λ (f : SharedEvent). f.byte_index) u.fields in
              let z = s.0 in
              let index : f.byte_index + i - 0 ≡ 0 = omega (arith, start, z) in
              let byte : k.byte ≡ 0 = sym (same_Some 0 k.byte k.there) in
              let b_is : 0 ≡ b = same_Some 0 b (ap (slice_get (0 ∷ [])) (sym z) ∙ at_b) in
              subst (λ (g : SharedEvent). slice_get g.payload (f.byte_index + i - g.byte_index) ≡ Some b) k.fields (ap (slice_get (k.byte ∷ [])) index ∙ ap Some (byte ∙ b_is))

      by : (t n : ℕ) → t < 2 → n ≡ 0 → IsShared d (Of (record { thread = t; number = 0 })) f → ValueOfReadEvent d (Of (record { thread = t; number = n })) (byte_value run (Of (record { thread = t; number = n })))
      by t (suc n) l z is = absurd (omega (arith, z))
      by zero zero l z is = value (key 0) f is refl refl
      by (suc zero) zero l z is = value (key 1) f is refl refl
      by (suc (suc t)) zero l z is = absurd (omega (arith, l))

  size : (q : EventKey) (f : SharedEvent) → IsShared d (Of q) f → length (byte_writers run (Of q)) ≡ f.element_size
  size q f is =
      let u = is-update q f is in
      by q.thread q.number u.few u.number ∙ ap (λ (f : SharedEvent). f.element_size) u.fields
    where
      by : (t n : ℕ) → t < 2 → n ≡ 0 → length (byte_writers run (Of (record { thread = t; number = n }))) ≡ 1
      by t (suc n) l z = absurd (omega (arith, z))
      by zero zero l z = refl
      by (suc zero) zero l z = refl
      by (suc (suc t)) zero l z = absurd (omega (arith, l))

  writers : (q : EventKey) (f : SharedEvent) (i : ℕ) (w : ByteEvent) → IsShared d (Of q) f → slice_get (byte_writers run (Of q)) i ≡ Some w → (g : SharedEvent) × IsShared d w g × Writes g × InRange g (f.byte_index + i)
  writers q f i w is at =
      let s = source q.thread q.number i w at in
      let start : 0 ≡ f.byte_index = ap (λ (f : SharedEvent). f.byte_index) (is-update q f is).fields in
      let z = s.0 in
      (initial_byte 0 0, subst (λ w. IsShared d w (initial_byte 0 0)) (sym s.1) (initial-shared run ops shaped 0 0 refl), inl refl, (omega arith, omega (arith, start, z)))

  valid : IsValidExecution HaveOverlappingRanges (byte_candidate_of run ops) (byte_order_of run)
  valid = record {
    reads_bytes_from = record {
      size = λ r f is does. sizes r f is does;
      writers = λ r f is does i w at. all-writers r f is does i w at;
      others = λ r f is does i w at same. apart r i w at same;
    };
    host = λ e f h. absurd h;
    strict = λ e h. let i = initially h in let l = i.rises in let s : InitAt i.a ≡ InitAt i.b = sym i.first ∙ i.second in let same : i.a ≡ i.b = cc in omega (arith, l, same);
    chosen = values;
    coherent = λ r f is does i w at. (λ h. future r f is does w h, λ v g is_v writes_v within h j. future' r f is does v j);
    tear_free = λ r w v f g h f_whole from_w is_w g_whole equal is_v equal_v h_whole two from_v. two (one-writer r w v f from_w from_v);
    memory_order = record {
      irreflexive = λ e is l. order-irreflexive run ops shaped fitting large e l;
      transitive = λ e f g is_e is_f is_g l m. order-transitive run ops shaped fitting large e f g l m;
      total = order-total run ops shaped fitting large;
      keeps_happens_before = λ e f h. ordered e f (initially h);
      keeps_atomics = λ r w v f g h from is_w is_v does atomic before after o. overtaken r w v f g h from o;
      finite = λ w g is does atomic. (map Of run.witness.order, λ e p. in-list run ops shaped fitting large e p.0 p.1 p.2);
    };
  }
    where
      sizes : (r : ByteEvent) (f : SharedEvent) → IsShared d r f → Reads f → length (byte_writers run r) ≡ f.element_size
      sizes (InitAt a) f is does = absurd (byte-reads run ops shaped a f is does)
      sizes (Of q) f is does = size q f is

      all-writers : (r : ByteEvent) (f : SharedEvent) → IsShared d r f → Reads f → (i : ℕ) (w : ByteEvent) → slice_get (byte_writers run r) i ≡ Some w → (g : SharedEvent) × IsShared d w g × Writes g × InRange g (f.byte_index + i)
      all-writers (InitAt a) f is does i w at = absurd (byte-reads run ops shaped a f is does)
      all-writers (Of q) f is does i w at = writers q f i w is at

      apart : (r : ByteEvent) (i : ℕ) (w : ByteEvent) → slice_get (byte_writers run r) i ≡ Some w → w ≡ r → ⊥
      apart (InitAt a) i w at same = none-some w at
      apart (Of q) i w at same = let s = (source q.thread q.number i w at).1 in cc

      values : (r : ByteEvent) (f : SharedEvent) → IsShared d r f → Reads f → ValueOfReadEvent d r (byte_value run r)
      values (InitAt a) f is does = absurd (byte-reads run ops shaped a f is does)
      values (Of q) f is does = chosen q f is

      future : (r : ByteEvent) (f : SharedEvent) → IsShared d r f → Reads f → (w : ByteEvent) → HappensBefore HaveOverlappingRanges d r w → ⊥
      future (InitAt a) f is does w h = byte-reads run ops shaped a f is does
      future (Of q) f is does w h = never-before q w h

      future' : (r : ByteEvent) (f : SharedEvent) → IsShared d r f → Reads f → (v : ByteEvent) → HappensBefore HaveOverlappingRanges d v r → ⊥
      future' (InitAt a) f is does v h = byte-reads run ops shaped a f is does
      future' (Of q) f is does v h = never-after v q h

      one-writer : (r w v : ByteEvent) (f : SharedEvent) → ReadsFrom d r w f → ReadsFrom d r v f → w ≡ v
      one-writer (InitAt a) w v f from_w from_v = absurd (byte-reads run ops shaped a f from_w.reader from_w.reads)
      one-writer (Of q) w v f from_w from_v = (source q.thread q.number from_w.index w from_w.contains).1 ∙ sym (source q.thread q.number from_v.index v from_v.contains).1

      ordered : (e f : ByteEvent) → Initially e f → byte_order_of run e f
      ordered e f i = subst₂ (byte_order_of run) (sym i.first) (sym i.second) i.rises

      overtaken : (r w v : ByteEvent) (f g h : SharedEvent) → ReadsFrom d r w f → Overtakes HaveOverlappingRanges d r w v f g h → ⊥
      overtaken r w v f g h from (synchronized s equal) = future' r f from.reader from.reads w (synchronizes s)
      overtaken r w v f g h from (written_over first second atomic equal) = future' r f from.reader from.reads w first
      overtaken r w v f g h from (read_past first second atomic equal) = future' r f from.reader from.reads w first

-- ---- by V1 to V5 it is valid in no order

never-valid : IsValidInSomeOrder run → ⊥
never-valid some = ⊎_elim
    (λ (l : y.place_of (key 0) < y.place_of (key 1)). later 1 0 refl refl refl l)
    (λ (l : y.place_of (key 1) ≤ y.place_of (key 0)). ⊎_elim
    (λ (m : y.place_of (key 1) < y.place_of (key 0)). later 0 1 refl refl refl m)
    (λ (m : y.place_of (key 0) ≤ y.place_of (key 1)). one-place (omega (arith, l, m)))
    (cases_lt (y.place_of (key 1)) (y.place_of (key 0))))
    (cases_lt (y.place_of (key 0)) (y.place_of (key 1)))
  where
    y : Execution
    y = execution (with_order run some.0)

    later : (r v : ℕ) → y.event_of (key r) ≡ Some (update r) → y.event_of (key v) ≡ Some (update v) → slice_get (y.writers_of (key r)) 0 ≡ Some Init → y.place_of (key v) < y.place_of (key r) → ⊥
    later r v is_r is_v from l = some.2.keeps_sequential_consistency (key r) (update r) 0 Init is_r from (At (key v)) 3 (update v, is_v, refl, refl) (omega arith) (omega (arith, l))
        (past refl refl ([], some_of (y.event_of (key r)) (update r) is_r) ([], some_of (y.event_of (key v)) (update v) is_v) (update v, is_v, refl))

    one-place : y.place_of (key 0) ≡ y.place_of (key 1) → ⊥
    one-place same =
        let m = some.1.order.listed (key 0) refl in
        let n = some.1.order.listed (key 1) refl in
        let p : y.place_of (key 0) ≡ m.0 = position_listed run.log some.0 some.1.order m.0 (key 0) m.1 in
        let q : y.place_of (key 1) ≡ n.0 = position_listed run.log some.0 some.1.order n.0 (key 1) n.1 in
        let e : m.0 ≡ n.0 = sym p ∙ same ∙ q in
        let k : key 0 ≡ key 1 = same_Some (key 0) (key 1) (sym m.1 ∙ ap (slice_get some.0) e ∙ n.1) in
        let t : 0 ≡ 1 = ap (λ (k : EventKey). k.thread) k in
        omega (arith, t)

pub letter-allows-more : LetterAllowsMore
letter-allows-more =
    let ops = has-operations run in
    record { run = run; ops = ops.0; shaped = shaped; fitting = ops.1; large = large; standard = valid ops.0 ops.1; not_valid = never-valid }
