-- The events of a legal history are those of a log.
use Rattle.std.proofs.Common.{◌≡◌, ℕ, suc, Bool, true, false, List, [], ◌∷◌, ◌++◌, ◌+◌, ◌<◌, ◌==◌, length, map, slice_get, Some, refl, sym, ◌∙◌, subst, arith, if◌then◌else◌}
use Rattle.std.proofs.lemmas.Bool.{eqb-true}
use Rattle.std.proofs.lemmas.Option.{slice_get_within}
use Rattle.wm_access.specs.declared.AccessWidth.{AccessWidth}
use Rattle.wm_access.specs.declared.MemoryOrder.{MemoryOrder}
use Rattle.wm_access.specs.declared.MemoryOrder.TheVariants.{SeqCst}
use Rattle.wm_event.specs.declared.event.Event.{Event}
use Rattle.wm_event.specs.declared.event.EventId.{EventId}
use Rattle.wm_event.specs.declared.event.EventKind.TheVariants as kind
use Rattle.wm_event.specs.declared.log.ThreadLog.{ThreadLog}
use Rattle.wm_event.specs.declared.op.OpKind.{OpKind}
use Rattle.wm_event.specs.declared.op.OpKind.TheVariants.{Read, Write, Rmw, CmpXchg}
use Rattle.wm_event.specs.Log.{UsesFields, IsEvent, AreEvents, AreThreads}
use Rattle.wm_event.specs.Op.{KindFits, made_kind, made_read, made_written}
use Rattle.wm_memory.specs.declared.history_step.HistoryStep.{HistoryStep}
use Rattle.wm_memory.specs.declared.history_step.HistoryStep.TheVariants.{Access, Drain, DrainAt}
use Rattle.wm_memory.specs.Visibility.{Step, Made, accesses, seen, visible, value_at, made_after, writers_after, steps}
use Rattle.wm_access.specs.AccessWidth.{bytes_of}
use Rattle.wm_memory.specs.Legal.{IsLegal}
use Rattle.wm_memory.specs.Law.{LegalIsLog}
use Rattle.wm_memory.specs.Recorded.{events_of, by_thread}
use Rattle.wm_memory.proofs.Listed.{length-events_of, length-by_thread, get-by_thread}

exchange_uses : (order : MemoryOrder) (r new : ℕ) (b : Bool) → order ≡ SeqCst → UsesFields (if b then kind.Update else kind.Read) order r (if b then new else 0)
exchange_uses order r new true h = h
exchange_uses order r new false h = refl

uses_fields : (width : AccessWidth) (a : OpKind) (order : MemoryOrder) (r : ℕ) → KindFits a order width → UsesFields (made_kind a r) order (made_read a r) (made_written width a r)
uses_fields width Read order r h = refl
uses_fields width (Write v) order r h = refl
uses_fields width (Rmw op v) order r h = h.1
uses_fields width (CmpXchg x y) order r h = exchange_uses order r y (r == x) h.2

one_more : (t i : ℕ) (es : List Event) (e : Event) → AreEvents t i es → IsEvent t (i + length es) e → AreEvents t i (es ++ e ∷ [])
one_more t i [] e h n = (let m : i + 0 ≡ i = omega arith in subst (λ (k : ℕ). IsEvent t k e) m n, tt)
one_more t i (x ∷ es) e h n =
    let m : i + suc (length es) ≡ suc i + length es = omega arith in
    (h.0, one_more t (suc i) es e h.1 (subst (λ (k : ℕ). IsEvent t k e) m n))

made_events : (s : List Step) (e : Event) (ws : List EventId) (t : ℕ) (b : Bool) → (e.thread == t) ≡ b → AreEvents t 0 (events_of s t) → IsEvent e.thread (accesses s e.thread) e → AreEvents t 0 (events_of (Made e ws ∷ s) t)
made_events s e ws t true eq old new =
    let same : e.thread ≡ t = eqb-true e.thread t eq in
    let at : IsEvent t (accesses s t) e = subst (λ (u : ℕ). IsEvent u (accesses s u) e) same new in
    rw eq (one_more t 0 (events_of s t) e old (subst (λ (k : ℕ). IsEvent t k e) (sym (length-events_of s t) ∙ omega arith) at))
made_events s e ws t false eq old new = rw eq old

are_events : (threads : ℕ) (initial : List ℕ) (history : List HistoryStep) (t : ℕ) → IsLegal threads initial history → AreEvents t 0 (events_of (steps initial history) t)
are_events threads initial [] t h = tt
are_events threads initial (Drain u ∷ older) t h = are_events threads initial older t h.0
are_events threads initial (DrainAt u k ∷ older) t h = are_events threads initial older t h.0
are_events threads initial (Access u op ∷ older) t h =
    let s = steps initial older in
    let r = value_at (seen initial (visible s u)) op.address (bytes_of op.width) in
    let e = made_after initial s u op in
    made_events s e (writers_after initial s e) t (u == t) refl (are_events threads initial older t h.0) (refl, refl, uses_fields op.width op.kind op.order r h.1.2)

are_threads : (log : List ThreadLog) (t : ℕ) → ((i : ℕ) (es : List Event) → slice_get (map (λ (thread : ThreadLog). thread.events) log) i ≡ Some es → AreEvents (t + i) 0 es) → AreThreads t log
are_threads [] t h = tt
are_threads (x ∷ log) t h = (
  (let m : t + 0 ≡ t = omega arith in subst (λ (u : ℕ). AreEvents u 0 x.events) m (h 0 x.events refl)),
  are_threads log (suc t) (λ i es at. (let m : t + suc i ≡ suc t + i = omega arith in subst (λ (u : ℕ). AreEvents u 0 es) m (h (suc i) es at))),
)

pub legal_is_log : LegalIsLog
legal_is_log = λ threads initial history log legal same. (
    let f : ℕ → List Event = events_of (steps initial history) in
    are_threads log 0 (λ i es at. (
    let here : slice_get (by_thread f threads) i ≡ Some es = subst (λ (l : List (List Event)). slice_get l i ≡ Some es) same at in
    let within : i < threads = subst (λ (n : ℕ). i < n) (length-by_thread f threads) (slice_get_within (by_thread f threads) i es here) in
    let is : f i ≡ es = (let q : Some (f i) ≡ Some es = sym (get-by_thread f threads i within) ∙ here in cc) in
    let m : 0 + i ≡ i = omega arith in
    subst (λ (u : ℕ). AreEvents u 0 es) (sym m) (subst (λ (l : List Event). AreEvents i 0 l) is (are_events threads initial history i legal)))))
