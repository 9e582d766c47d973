-- A thread with two writes, listed in the wrong order.
use Rattle.std.proofs.Common.{◌≡◌, ℕ, zero, suc, ◌+◌, ◌<◌, List, [], ◌∷◌, slice_get, Some, IsSome, refl, sym, ap, subst, arith, inl}
use Rattle.std.proofs.lemmas.Bool.{false≢true}
use Rattle.std.proofs.lemmas.Option.{same_Some, none-some}
use Rattle.wm_access.specs.declared.AccessWidth.TheVariants.{One}
use Rattle.wm_access.specs.declared.MemoryOrder.TheVariants.{Unordered}
use Rattle.wm_event.specs.declared.event.Event.{Event}
use Rattle.wm_event.specs.declared.event.EventKey.{EventKey}
use Rattle.wm_event.specs.declared.event.EventKind.TheVariants.{Write}
use Rattle.wm_event.specs.declared.event.EventId.{EventId}
use Rattle.wm_event.specs.declared.event.EventId.TheVariants.{At}
use Rattle.wm_event.specs.declared.log.End.TheVariants.{Cut}
use Rattle.wm_event.specs.Execution.{ReadsFrom}
use Rattle.wm_event.specs.HappensBefore.{SequencedBefore}
use Rattle.wm_event.specs.Log.{event_in}
use Rattle.wm_event.specs.LoggedRun.{LoggedRun, execution}
use Rattle.wm_event.specs.Rules.{IsValid}
use Rattle.wm_event.specs.Shape.{IsGoodEvent, IsWellShaped, ListsEachOnce}
use Rattle.wm_event.specs.Witness.{writers_in}
use Rattle.wm_standard.specs.Agreement.Ends.{ends}
use Rattle.wm_standard.specs.Needed.{OrderIsNeeded}
use Rattle.wm_standard.proofs.Unsynchronized.{IsUnsynchronized, is-valid, keeps-atomics}

abbrev pub key : ℕ → EventKey
key n = record { thread = 0; number = n }

abbrev pub write : ℕ → Event
write n = record { thread = 0; number = n; kind = Write; order = Unordered; address = 0; width = One; read = 0; written = 1 }

abbrev pub in_order : List EventKey → LoggedRun
in_order order = record {
  log = record { start = record { name = []; args = [] }; end = Cut; steps = 2; events = write 0 ∷ write 1 ∷ [] } ∷ [];
  witness = record { writers = ([] ∷ [] ∷ []) ∷ []; order = order };
  initial = 0 ∷ 0 ∷ 0 ∷ 0 ∷ 0 ∷ 0 ∷ 0 ∷ 0 ∷ 0 ∷ [];
}

abbrev pub turned : LoggedRun
turned = in_order (key 1 ∷ key 0 ∷ [])

abbrev pub straight : LoggedRun
straight = in_order (key 0 ∷ key 1 ∷ [])

-- the events
pub small : (t n : ℕ) → IsSome (event_in turned.log (record { thread = t; number = n })) → (t ≡ 0) × (n < 2)
small zero zero h = (refl, omega arith)
small zero (suc zero) h = (refl, omega arith)
small zero (suc (suc n)) h = absurd (false≢true h)
small (suc t) n h = absurd (false≢true h)

there : (q : EventKey) → q.thread ≡ 0 → q.number < 2 → IsSome (event_in turned.log q)
there q t n = by q.thread q.number t n
  where
    by : (t n : ℕ) → t ≡ 0 → n < 2 → IsSome (event_in turned.log (record { thread = t; number = n }))
    by zero zero h k = refl
    by zero (suc zero) h k = refl
    by zero (suc (suc n)) h k = absurd (omega (arith, k))
    by (suc t) n h k = absurd (omega (arith, h))

no-source : (order : List EventKey) (t n k : ℕ) (w : EventId) → slice_get (writers_in (in_order order).witness (record { thread = t; number = n })) k ≡ Some w → ⊥
no-source order zero zero k w h = none-some w h
no-source order zero (suc zero) k w h = none-some w h
no-source order zero (suc (suc n)) k w h = none-some w h
no-source order (suc t) n k w h = none-some w h

good : (t n : ℕ) (e : Event) → event_in turned.log (record { thread = t; number = n }) ≡ Some e
    → (e.thread ≡ t) × (e.number ≡ n) × IsGoodEvent turned.log turned.initial e (writers_in turned.witness (record { thread = t; number = n }))
good zero zero e h = subst (λ (e : Event). (e.thread ≡ 0) × (e.number ≡ 0) × IsGoodEvent turned.log turned.initial e []) (same_Some (write 0) e h)
    (refl, refl, record { in_memory = omega arith; fits = (omega arith, omega arith); count = refl; there = λ k d l. absurd (omega (arith, l)) })
good zero (suc zero) e h = subst (λ (e : Event). (e.thread ≡ 0) × (e.number ≡ 1) × IsGoodEvent turned.log turned.initial e []) (same_Some (write 1) e h)
    (refl, refl, record { in_memory = omega arith; fits = (omega arith, omega arith); count = refl; there = λ k d l. absurd (omega (arith, l)) })
good zero (suc (suc n)) e h = absurd (none-some e h)
good (suc t) n e h = absurd (none-some e h)

pub shaped : (order : List EventKey) → ListsEachOnce turned.log order → IsWellShaped (in_order order)
shaped order lists = record {
  keys = λ q e h. let g = good q.thread q.number e h in (g.0, g.1);
  few = omega arith;
  counts = refl;
  good = λ q e h. (good q.thread q.number e h).2;
  order = lists;
}

pub turned-lists : ListsEachOnce turned.log turned.witness.order
turned-lists = record {
  listed = λ q h. by q.thread q.number h;
  events = λ m q h. let l = at m q h in there q l.0 l.1;
  once = λ m n q h k. let p = (at m q h).2 in let p' = (at n q k).2 in omega (arith, p, p');
}
  where
    at : (m : ℕ) (q : EventKey) → slice_get turned.witness.order m ≡ Some q → (q.thread ≡ 0) × (q.number < 2) × (m + q.number ≡ 1)
    at zero q h = let s = same_Some (key 1) q h in let n = ap (λ (q : EventKey). q.number) s in (ap (λ (q : EventKey). q.thread) (sym s), omega (arith, n), omega (arith, n))
    at (suc zero) q h = let s = same_Some (key 0) q h in let n = ap (λ (q : EventKey). q.number) s in (ap (λ (q : EventKey). q.thread) (sym s), omega (arith, n), omega (arith, n))
    at (suc (suc m)) q h = absurd (none-some q h)

    by : (t n : ℕ) → IsSome (event_in turned.log (record { thread = t; number = n })) → (m : ℕ) × (slice_get turned.witness.order m ≡ Some (record { thread = t; number = n }))
    by zero zero h = (1, refl)
    by zero (suc zero) h = (0, refl)
    by zero (suc (suc n)) h = absurd (false≢true h)
    by (suc t) n h = absurd (false≢true h)

pub straight-lists : ListsEachOnce turned.log straight.witness.order
straight-lists = record {
  listed = λ q h. by q.thread q.number h;
  events = λ m q h. let l = at m q h in there q l.0 l.1;
  once = λ m n q h k. let p = (at m q h).2 in let p' = (at n q k).2 in omega (arith, p, p');
}
  where
    at : (m : ℕ) (q : EventKey) → slice_get straight.witness.order m ≡ Some q → (q.thread ≡ 0) × (q.number < 2) × (m ≡ q.number)
    at zero q h = let s = same_Some (key 0) q h in let n = ap (λ (q : EventKey). q.number) s in (ap (λ (q : EventKey). q.thread) (sym s), omega (arith, n), omega (arith, n))
    at (suc zero) q h = let s = same_Some (key 1) q h in let n = ap (λ (q : EventKey). q.number) s in (ap (λ (q : EventKey). q.thread) (sym s), omega (arith, n), omega (arith, n))
    at (suc (suc m)) q h = absurd (none-some q h)

    by : (t n : ℕ) → IsSome (event_in turned.log (record { thread = t; number = n })) → (m : ℕ) × (slice_get straight.witness.order m ≡ Some (record { thread = t; number = n }))
    by zero zero h = (0, refl)
    by zero (suc zero) h = (1, refl)
    by zero (suc (suc n)) h = absurd (false≢true h)
    by (suc t) n h = absurd (false≢true h)

reads-nothing : (order : List EventKey) (r : EventKey) (k : ℕ) (w : EventId) → ReadsFrom (execution (in_order order)) r k w → ⊥
reads-nothing order r k w from = no-source order r.thread r.number k w from

pub unsynchronized : IsUnsynchronized (execution straight)
unsynchronized = record {
  threads = λ r u k from. absurd (reads-nothing straight.witness.order r k (At u) from);
  ranges = λ r u k e f from. absurd (reads-nothing straight.witness.order r k (At u) from);
  values = λ r e k w is from. absurd (reads-nothing straight.witness.order r k w from);
  places = λ a b s. by a.thread a.number b.thread b.number s;
  own = λ r v e k w is from. absurd (reads-nothing straight.witness.order r k w from);
}
  where
    place-at : (t n : ℕ) → t ≡ 0 → n < 2 → (execution straight).place_of (record { thread = t; number = n }) ≡ n
    place-at zero zero h k = refl
    place-at zero (suc zero) h k = refl
    place-at zero (suc (suc n)) h k = absurd (omega (arith, k))
    place-at (suc t) n h k = absurd (omega (arith, h))

    by : (t n t' n' : ℕ) → SequencedBefore (execution straight) (record { thread = t; number = n }) (record { thread = t'; number = n' })
        → (execution straight).place_of (record { thread = t; number = n }) < (execution straight).place_of (record { thread = t'; number = n' })
    by t n t' n' s =
        let a = small t n s.first in
        let b = small t' n' s.second in
        let p = place-at t n a.0 a.1 in
        let q = place-at t' n' b.0 b.1 in
        let l = s.earlier in
        omega (arith, p, q, l)

pub valid-straight : IsValid (execution straight)
valid-straight = is-valid (execution straight) unsynchronized (keeps-atomics (execution straight) unsynchronized (λ r e k w v is from. absurd (reads-nothing straight.witness.order r k w from)))

not-valid : IsValid (execution turned) → ⊥
not-valid valid =
    let l = valid.keeps_order (At (key 0)) (At (key 1)) ([], inl (record { first = refl; second = refl; same_thread = refl; earlier = omega arith })) in
    omega (arith, l)

pub order-is-needed : OrderIsNeeded
order-is-needed = record {
  run = turned;
  shaped = shaped turned.witness.order turned-lists;
  large = omega arith;
  values_end = λ r there. ends (λ k u f from. absurd (reads-nothing turned.witness.order r k (At u) from));
  in_some_order = (straight.witness.order, shaped straight.witness.order straight-lists, valid-straight);
  not_valid = not-valid;
}
