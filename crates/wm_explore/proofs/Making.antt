-- The event that an access makes, in a log.
use Rattle.std.proofs.Common.{◌≡◌, ℕ, zero, suc, ◌+◌, ◌==◌, Bool, true, false, List, [], ◌∷◌, ◌++◌, length, Some, refl, sym, subst, arith}
use Rattle.std.specs.Prelude.{slice_get, if◌then◌else◌}
use Rattle.std.proofs.lemmas.Option.{none-some, same_Some}
use Rattle.wm_access.specs.declared.AccessWidth.{AccessWidth}
use Rattle.wm_access.specs.declared.MemoryOrder.{MemoryOrder}
use Rattle.wm_event.specs.declared.event.Event.{Event}
use Rattle.wm_event.specs.declared.event.EventKind.TheVariants as event
use Rattle.wm_event.specs.declared.log.ThreadLog.{ThreadLog}
use Rattle.wm_event.specs.declared.op.OpFields.{OpFields}
use Rattle.wm_event.specs.declared.op.OpKind.{OpKind}
use Rattle.wm_event.specs.declared.op.OpKind.TheVariants.{Read, Write, Rmw, CmpXchg}
use Rattle.wm_event.specs.Log.{AreEvents, AreThreads, IsEvent, UsesFields}
use Rattle.wm_event.specs.Op.{IsOp, KindFits, event_made, made_kind, made_read, made_written}
use Rattle.wm_explore.specs.States.{extended}

kind_uses : (kind : OpKind) (order : MemoryOrder) (width : AccessWidth) (r : ℕ) → KindFits kind order width → UsesFields (made_kind kind r) order (made_read kind r) (made_written width kind r)
kind_uses Read order width r h = refl
kind_uses (Write v) order width r h = refl
kind_uses (Rmw op v) order width r h = h.1
kind_uses (CmpXchg expected new) order width r h = by (r == expected)
  where
    by : (b : Bool) → UsesFields (if b then event.Update else event.Read) order r (if b then new else 0)
    by true = h.2
    by false = refl

-- an access makes an event of its place that uses its fields as its kind requires
pub made_is_event : (k n : ℕ) (op : OpFields) (r : ℕ) → IsOp op → IsEvent k n (event_made record { thread = k; number = n } op r)
made_is_event k n op r h = (refl, refl, kind_uses op.kind op.order op.width r h)

events_extended : (k i : ℕ) (es : List Event) (e : Event) → AreEvents k i es → IsEvent k (i + length es) e → AreEvents k i (es ++ e ∷ [])
events_extended k i [] e are is = let none : i + 0 ≡ i = omega arith in (subst (λ n. IsEvent k n e) none is, tt)
events_extended k i (f ∷ es) e are is = let sum : i + suc (length es) ≡ suc i + length es = omega arith in (are.0, events_extended k (suc i) es e are.1 (subst (λ n. IsEvent k n e) sum is))

-- a log in which thread k has one more event
pub log_extended : (j k : ℕ) (log : List ThreadLog) (t : ThreadLog) (e : Event) → AreThreads j log → slice_get log k ≡ Some t → IsEvent (j + k) (length t.events) e → AreThreads j (extended k e log)
log_extended j k [] t e are at is = absurd (none-some t at)
log_extended j zero (u ∷ us) t e are at is =
    let same : t ≡ u = sym (same_Some u t at) in
    let here : j + 0 ≡ j = omega arith in
    let number : length u.events ≡ 0 + length u.events = omega arith in
    (events_extended j 0 u.events e are.0 (subst (λ n. IsEvent j n e) number (subst (λ (v : ThreadLog). IsEvent j (length v.events) e) same (subst (λ n. IsEvent n (length t.events) e) here is))), are.1)
log_extended j (suc k) (u ∷ us) t e are at is =
    let sum : j + suc k ≡ suc j + k = omega arith in (are.0, log_extended (suc j) k us t e are.1 at (subst (λ n. IsEvent n (length t.events) e) sum is))
