-- An order lists no more events than the log may have.
use Rattle.std.proofs.Common.{◌≡◌, ℕ, zero, suc, ◌≤◌, List, [], ◌∷◌, Bool, true, false, ◌||◌, length, map, slice_get, Option, None, Some, IsSome, refl, sym, ap, ◌∙◌, arith, eqb}
use Rattle.std.specs.Cmp.{IsEquivalence}
use Rattle.std.specs.List.{AllByRecursion, IsDistinct, flat_map, list_any}
use Rattle.std.proofs.lemmas.Bool.{and_from, eq-eqb, false≢true}
use Rattle.std.proofs.lemmas.List.Concat.{flat_map-cons}
use Rattle.std.proofs.lemmas.List.Folds.{list_any-append}
use Rattle.std.proofs.lemmas.List.{length-append, length-map}
use Rattle.std.proofs.lemmas.List.Sums.{sum_by-cons}
use Rattle.std.proofs.lemmas.Map.Made.{length-le_from_is_member}
use Rattle.std.proofs.lemmas.Option.{same_Some}
use Rattle.wm_event.specs.declared.event.Event.{Event}
use Rattle.wm_event.specs.declared.event.EventKey.{EventKey}
use Rattle.wm_event.specs.declared.log.ThreadLog.{ThreadLog}
use Rattle.wm_event.specs.Event.{key_of, same_key}
use Rattle.wm_event.specs.Limits.{max_events}
use Rattle.wm_event.specs.Log.{event_in}
use Rattle.wm_event.specs.LoggedRun.{LoggedRun}
use Rattle.wm_event.specs.Shape.{IsWellShaped, event_count}
use Rattle.wm_event.proofs.PlacesLemmas.{key_from_same}
use Rattle.wm_hb.proofs.ThreadLemmas.{named_so}

key_self : (a : EventKey) → same_key a a ≡ true
key_self a = and_from (eqb a.thread a.thread) (eqb a.number a.number) (eq-eqb a.thread a.thread refl) (eq-eqb a.number a.number refl)

eqb-turned : (m n : ℕ) → eqb m n ≡ eqb n m
eqb-turned m n = grind arith

laws : IsEquivalence same_key
laws = record {
  refl = key_self;
  symm = λ a b. turned a b (same_key a b) (same_key b a) refl refl;
  congr = λ a b c h. ap (λ k. same_key k c) (key_from_same a b h);
}
  where
    turned : (a b : EventKey) (s t : Bool) → same_key a b ≡ s → same_key b a ≡ t → s ≡ t
    turned a b true true h k = refl
    turned a b false false h k = refl
    turned a b true false h k = absurd (false≢true (sym k ∙ ap (λ x. same_key b x) (key_from_same a b h) ∙ key_self b))
    turned a b false true h k = absurd (false≢true (sym h ∙ ap (λ x. same_key a x) (key_from_same b a k) ∙ key_self a))

-- no key is in a list twice
abbrev pub IsOnce : List EventKey → Type 0
IsOnce keys = (m n : ℕ) (key : EventKey) → slice_get keys m ≡ Some key → slice_get keys n ≡ Some key → m ≡ n

all_from : (P : EventKey → Type 0) (keys : List EventKey) → ((n : ℕ) (key : EventKey) → slice_get keys n ≡ Some key → P key) → AllByRecursion P keys
all_from P [] each = tt
all_from P (key ∷ keys) each = (each 0 key refl, all_from P keys (λ n k h. each (suc n) k h))

is_false : (b : Bool) → (b ≡ true → ⊥) → b ≡ false
is_false true h = absurd (h refl)
is_false false h = refl

distinct : (keys : List EventKey) → IsOnce keys → IsDistinct same_key keys
unfolding IsDistinct
distinct [] once = tt
distinct (key ∷ keys) once = (
  all_from (λ k. same_key key k ≡ false) keys (λ n k h. is_false (same_key key k) (λ t.
      let e : key ≡ k = key_from_same key k t in
      let d : 0 ≡ suc n = once 0 (suc n) k (ap Some e) h in
      omega (arith, d))),
  distinct keys (λ m n k a b. let d : suc m ≡ suc n = once (suc m) (suc n) k a b in omega (arith, d)),
)

keys_in : List ThreadLog → List EventKey
keys_in log = flat_map (λ thread. map key_of thread.events) log

or_right : (a : Bool) → (a || true) ≡ true
or_right true = refl
or_right false = refl

event_member : (events : List Event) (i : ℕ) (e : Event) → slice_get events i ≡ Some e → list_any (same_key (key_of e)) (map key_of events) ≡ true
event_member [] i e h = absurd (cc)
event_member (f ∷ events) zero e h = ap (λ g. same_key (key_of e) (key_of g) || list_any (same_key (key_of e)) (map key_of events)) (same_Some f e h) ∙ ap (λ b. b || list_any (same_key (key_of e)) (map key_of events)) (key_self (key_of e))
event_member (f ∷ events) (suc i) e h = ap (λ b. same_key (key_of e) (key_of f) || b) (event_member events i e h) ∙ or_right (same_key (key_of e) (key_of f))

member : (log : List ThreadLog) (t i : ℕ) (e : Event) → event_in log (record { thread = t; number = i }) ≡ Some e → list_any (same_key (key_of e)) (keys_in log) ≡ true
unfolding keys_in
member [] t i e h = absurd (cc)
member (thread ∷ log) zero i e h =
    ap (list_any (same_key (key_of e))) (flat_map-cons (λ thread. map key_of thread.events) thread log) ∙ list_any-append (same_key (key_of e)) (map key_of thread.events) (flat_map (λ thread. map key_of thread.events) log)
    ∙ ap (λ b. b || list_any (same_key (key_of e)) (flat_map (λ thread. map key_of thread.events) log)) (event_member thread.events i e h)
member (thread ∷ log) (suc t) i e h =
    ap (list_any (same_key (key_of e))) (flat_map-cons (λ thread. map key_of thread.events) thread log) ∙ list_any-append (same_key (key_of e)) (map key_of thread.events) (flat_map (λ thread. map key_of thread.events) log)
    ∙ ap (λ b. list_any (same_key (key_of e)) (map key_of thread.events) || b) (member log t i e h) ∙ or_right (list_any (same_key (key_of e)) (map key_of thread.events))

size : (log : List ThreadLog) → length (keys_in log) ≡ event_count log
unfolding keys_in
size [] = refl
size (thread ∷ log) =
    let a = ap length (flat_map-cons (λ (thread : ThreadLog). map key_of thread.events) thread log) in
    let b = length-append (map key_of thread.events) (flat_map (λ (thread : ThreadLog). map key_of thread.events) log) in
    let c = length-map thread.events key_of in
    let d = size log in
    let e = sum_by-cons (λ (thread : ThreadLog). length thread.events) thread log in
    omega (arith, a, b, c, d, e)

-- a key that a test finds is in the list
found : (keys : List EventKey) (q : EventKey) → list_any (same_key q) keys ≡ true → (n : ℕ) × (slice_get keys n ≡ Some q)
found [] q h = absurd (false≢true h)
found (key ∷ keys) q h = by (same_key q key) refl (found keys q) h
  where
    by : (b : Bool) → same_key q key ≡ b → (list_any (same_key q) keys ≡ true → (n : ℕ) × (slice_get keys n ≡ Some q)) → (b || list_any (same_key q) keys) ≡ true → (n : ℕ) × (slice_get (key ∷ keys) n ≡ Some q)
    by true e rest h = (0, ap Some (sym (key_from_same q key e)))
    by false e rest h = let r = rest h in (suc r.0, r.1)

event_of : (o : Option Event) → IsSome o → (e : Event) × (o ≡ Some e)
event_of None h = absurd (false≢true h)
event_of (Some e) h = (e, refl)

-- an order lists at most as many events as the log has
pub order-few : (run : LoggedRun) → IsWellShaped run → length run.witness.order ≤ max_events
order-few run shape =
    let once = shape.order in
    let few = shape.few in
    let all = size run.log in
    let le = length-le_from_is_member laws run.witness.order (keys_in run.log) (distinct run.witness.order once.once) (λ q h.
    let at = found run.witness.order q h in
    let e = event_of (event_in run.log q) (once.events at.0 q at.1) in
    ap (λ k. list_any (same_key k) (keys_in run.log)) (sym (named_so run.log shape.keys q e.0 e.1)) ∙ member run.log q.thread q.number e.0 e.1) in
    omega (arith, few, all, le)
