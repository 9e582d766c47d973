-- Store buffering: two threads that each write a byte, and then read the other's, which is still the initial one.
use Rattle.std.proofs.Common.{◌≡◌, ◌≢◌, ℕ, zero, suc, ◌+◌, ◌<◌, ◌≤◌, ◌⊎◌, true, false, List, [], ◌∷◌, slice_get, Some, IsSome, refl, sym, ap, ◌∙◌, subst, arith, ⊎_elim}
use Rattle.std.specs.Prelude.{All}
use Rattle.std.proofs.lemmas.Bool.{cases_lt, false≢true}
use Rattle.std.proofs.lemmas.Option.{same_Some, none-some}
use Rattle.wm_access.specs.declared.AccessWidth.TheVariants.{One}
use Rattle.wm_access.specs.declared.MemoryOrder.{MemoryOrder}
use Rattle.wm_event.specs.declared.event.Event.{Event}
use Rattle.wm_event.specs.declared.event.EventKey.{EventKey}
use Rattle.wm_event.specs.declared.event.EventKind.TheVariants.{Read, Write}
use Rattle.wm_event.specs.declared.event.EventId.{EventId}
use Rattle.wm_event.specs.declared.event.EventId.TheVariants.{Init, At}
use Rattle.wm_event.specs.declared.log.End.TheVariants.{Cut}
use Rattle.wm_event.specs.declared.log.ThreadLog.{ThreadLog}
use Rattle.wm_event.specs.Log.{event_in}
use Rattle.wm_event.specs.LoggedRun.{LoggedRun, execution}
use Rattle.wm_event.specs.Execution.{Execution, ReadsFrom, byte_by, place}
use Rattle.wm_event.specs.HappensBefore.{SequencedBefore}
use Rattle.wm_event.specs.Byte.{byte_of}
use Rattle.wm_event.specs.Rules.{IsValid, KeepsWrittenValues, Writes}
use Rattle.wm_event.specs.Event.{is_atomic, range_of, writes}
use Rattle.wm_event.specs.declared.event.Range.{Range}
use Rattle.wm_access.specs.MemoryOrder.{is_sequential}
use Rattle.wm_access.specs.declared.MemoryOrder.TheVariants.{SeqCst, Unordered}
use Rattle.wm_races.specs.Races.{Overlap}
use Rattle.wm_event.specs.Shape.{IsGoodEvent, IsThere, IsWellShaped, ListsEachOnce}
use Rattle.wm_event.specs.Witness.{writers_in}
use Rattle.wm_access.specs.AccessWidth.{bytes_of}
use Rattle.wm_standard.specs.Agreement.{with_order}
use Rattle.wm_standard.proofs.Events.{some-is}
use Rattle.wm_standard.proofs.Unsynchronized.{IsUnsynchronized, is-valid, keeps-atomics, keeps-coherence, keeps-no-tearing, keeps-order, keeps-other-cases}
use Rattle.wm_sequential.specs.Weaker.{IsSequentialInNoOrder, StandardRacesAreNotEnough, ThirdCaseIsNeeded}
use Rattle.wm_sequential.specs.Sequential.{HasNoRace}
use Rattle.wm_sequential.specs.Programs.{Conflict, HasNoStandardRace}
use Rattle.wm_sequential.specs.Programs.Conflict.{both_write, taken, takes}
use Rattle.wm_sequential.proofs.Steps.{event-writes}

abbrev pub key : ℕ → ℕ → EventKey
key t n = record { thread = t; number = n }

only : (log : List ThreadLog) → All (IsThere log) (Init ∷ [])
only log zero d l = tt
only log (suc k) d l = absurd (omega (arith, l))

module _ (o : MemoryOrder) where
  -- the thread's write, and its read of the other's byte
  abbrev pub write : ℕ → Event
  write t = record { thread = t; number = 0; kind = Write; order = o; address = t; width = One; read = 0; written = 1 }

  abbrev pub read : ℕ → ℕ → Event
  read t a = record { thread = t; number = 1; kind = Read; order = o; address = a; width = One; read = 0; written = 0 }

  abbrev pub thread : ℕ → ℕ → ThreadLog
  thread t a = record { start = record { name = []; args = [] }; end = Cut; steps = 2; events = write t ∷ read t a ∷ [] }

  abbrev pub run : LoggedRun
  run = record {
    log = thread 0 1 ∷ thread 1 0 ∷ [];
    witness = record {
      writers = ([] ∷ (Init ∷ []) ∷ []) ∷ ([] ∷ (Init ∷ []) ∷ []) ∷ [];
      order = key 0 0 ∷ key 1 0 ∷ key 0 1 ∷ key 1 1 ∷ [];
    };
    initial = 0 ∷ 0 ∷ 0 ∷ 0 ∷ 0 ∷ 0 ∷ 0 ∷ 0 ∷ 0 ∷ [];
  }

  abbrev x : Execution
  x = execution run

  -- the events of the run
  pub data Is (t n : ℕ) (e : Event) : Type 0 where
    wrote : (a : ℕ) → t + a ≡ 1 → n ≡ 0 → write t ≡ e → Is t n e
    read_other : (a : ℕ) → t + a ≡ 1 → n ≡ 1 → read t a ≡ e → Is t n e

  pub which : (t n : ℕ) (e : Event) → event_in run.log (key t n) ≡ Some e → Is t n e
  which zero zero e h = wrote 1 refl refl (same_Some (write 0) e h)
  which zero (suc zero) e h = read_other 1 refl refl (same_Some (read 0 1) e h)
  which zero (suc (suc n)) e h = absurd (none-some e h)
  which (suc zero) zero e h = wrote 0 refl refl (same_Some (write 1) e h)
  which (suc zero) (suc zero) e h = read_other 0 refl refl (same_Some (read 1 0) e h)
  which (suc zero) (suc (suc n)) e h = absurd (none-some e h)
  which (suc (suc t)) n e h = absurd (none-some e h)

  -- the bytes that are read
  pub source : (t n k : ℕ) (w : EventId) → slice_get (writers_in run.witness (key t n)) k ≡ Some w → (n ≡ 1) × (k ≡ 0) × (w ≡ Init)
  source zero zero k w h = absurd (none-some w h)
  source zero (suc zero) zero w h = (refl, refl, sym (same_Some Init w h))
  source zero (suc zero) (suc k) w h = absurd (none-some w h)
  source zero (suc (suc n)) k w h = absurd (none-some w h)
  source (suc zero) zero k w h = absurd (none-some w h)
  source (suc zero) (suc zero) zero w h = (refl, refl, sym (same_Some Init w h))
  source (suc zero) (suc zero) (suc k) w h = absurd (none-some w h)
  source (suc zero) (suc (suc n)) k w h = absurd (none-some w h)
  source (suc (suc t)) n k w h = absurd (none-some w h)

  pub not-event : (r u : EventKey) (k : ℕ) → ReadsFrom x r k (At u) → ⊥
  not-event r u k from = let s = (source r.thread r.number k (At u) from).2 in cc

  pub listed-at : (m : ℕ) (q : EventKey) → slice_get run.witness.order m ≡ Some q → (q.thread < 2) × (q.number < 2) × (m ≡ q.thread + (q.number + q.number))
  listed-at zero q h = let s = same_Some (key 0 0) q h in let t = ap (λ (q : EventKey). q.thread) s in let n = ap (λ (q : EventKey). q.number) s in (omega (arith, t), omega (arith, n), omega (arith, t, n))
  listed-at (suc zero) q h = let s = same_Some (key 1 0) q h in let t = ap (λ (q : EventKey). q.thread) s in let n = ap (λ (q : EventKey). q.number) s in (omega (arith, t), omega (arith, n), omega (arith, t, n))
  listed-at (suc (suc zero)) q h = let s = same_Some (key 0 1) q h in let t = ap (λ (q : EventKey). q.thread) s in let n = ap (λ (q : EventKey). q.number) s in (omega (arith, t), omega (arith, n), omega (arith, t, n))
  listed-at (suc (suc (suc zero))) q h = let s = same_Some (key 1 1) q h in let t = ap (λ (q : EventKey). q.thread) s in let n = ap (λ (q : EventKey). q.number) s in (omega (arith, t), omega (arith, n), omega (arith, t, n))
  listed-at (suc (suc (suc (suc m)))) q h = absurd (none-some q h)

  there : (t n : ℕ) → t < 2 → n < 2 → IsSome (event_in run.log (key t n))
  there zero zero h k = refl
  there zero (suc zero) h k = refl
  there zero (suc (suc n)) h k = absurd (omega (arith, k))
  there (suc zero) zero h k = refl
  there (suc zero) (suc zero) h k = refl
  there (suc zero) (suc (suc n)) h k = absurd (omega (arith, k))
  there (suc (suc t)) n h k = absurd (omega (arith, h))

  lists : (t n : ℕ) → IsSome (event_in run.log (key t n)) → (m : ℕ) × (slice_get run.witness.order m ≡ Some (key t n))
  lists zero zero h = (0, refl)
  lists zero (suc zero) h = (2, refl)
  lists zero (suc (suc n)) h = absurd (false≢true h)
  lists (suc zero) zero h = (1, refl)
  lists (suc zero) (suc zero) h = (3, refl)
  lists (suc zero) (suc (suc n)) h = absurd (false≢true h)
  lists (suc (suc t)) n h = absurd (false≢true h)

  order : ListsEachOnce run.log run.witness.order
  order = record {
    listed = λ q h. lists q.thread q.number h;
    events = λ m q h. let l = listed-at m q h in there q.thread q.number l.0 l.1;
    once = λ m n q h k. (listed-at m q h).2 ∙ sym (listed-at n q k).2;
  }

  good : (t n : ℕ) (e : Event) → event_in run.log (key t n) ≡ Some e → IsGoodEvent run.log run.initial e (writers_in run.witness (key t n))
  good zero zero e h = subst (λ e. IsGoodEvent run.log run.initial e []) (same_Some (write 0) e h) (record { in_memory = omega arith; fits = (omega arith, omega arith); count = refl; there = λ k d l. absurd (omega (arith, l)) })
  good zero (suc zero) e h = subst (λ e. IsGoodEvent run.log run.initial e (Init ∷ [])) (same_Some (read 0 1) e h) (record { in_memory = omega arith; fits = (omega arith, omega arith); count = refl; there = only run.log })
  good zero (suc (suc n)) e h = absurd (none-some e h)
  good (suc zero) zero e h = subst (λ e. IsGoodEvent run.log run.initial e []) (same_Some (write 1) e h) (record { in_memory = omega arith; fits = (omega arith, omega arith); count = refl; there = λ k d l. absurd (omega (arith, l)) })
  good (suc zero) (suc zero) e h = subst (λ e. IsGoodEvent run.log run.initial e (Init ∷ [])) (same_Some (read 1 0) e h) (record { in_memory = omega arith; fits = (omega arith, omega arith); count = refl; there = only run.log })
  good (suc zero) (suc (suc n)) e h = absurd (none-some e h)
  good (suc (suc t)) n e h = absurd (none-some e h)

  pub shaped : IsWellShaped run
  shaped = record {
    keys = λ q e h. keys q e (which q.thread q.number e h);
    few = omega arith;
    counts = refl;
    good = λ q e h. good q.thread q.number e h;
    order = order;
  }
    where
      keys : (q : EventKey) (e : Event) → Is q.thread q.number e → (e.thread ≡ q.thread) × (e.number ≡ q.number)
      keys q e (wrote a l n is) = (ap (λ (e : Event). e.thread) (sym is), ap (λ (e : Event). e.number) (sym is) ∙ sym n)
      keys q e (read_other a l n is) = (ap (λ (e : Event). e.thread) (sym is), ap (λ (e : Event). e.number) (sym is) ∙ sym n)

  place-is : (t n : ℕ) → t < 2 → n < 2 → x.place_of (key t n) ≡ t + (n + n)
  place-is zero zero h k = refl
  place-is zero (suc zero) h k = refl
  place-is zero (suc (suc n)) h k = absurd (omega (arith, k))
  place-is (suc zero) zero h k = refl
  place-is (suc zero) (suc zero) h k = refl
  place-is (suc zero) (suc (suc n)) h k = absurd (omega (arith, k))
  place-is (suc (suc t)) n h k = absurd (omega (arith, h))

  small : (t n : ℕ) → IsSome (event_in run.log (key t n)) → (t < 2) × (n < 2)
  small zero zero h = (omega arith, omega arith)
  small zero (suc zero) h = (omega arith, omega arith)
  small zero (suc (suc n)) h = absurd (false≢true h)
  small (suc zero) zero h = (omega arith, omega arith)
  small (suc zero) (suc zero) h = (omega arith, omega arith)
  small (suc zero) (suc (suc n)) h = absurd (false≢true h)
  small (suc (suc t)) n h = absurd (false≢true h)

  -- of a thread's two events only the second reads, and not the byte that the first writes
  values : KeepsWrittenValues x
  values r e k w h from =
      let s = source r.thread r.number k w from in
      (λ t. let m = s.2 in cc, ap (λ w. byte_by x w (e.address + k)) s.2 ∙ ap (λ k. slice_get run.initial (e.address + k)) s.1 ∙ by (which r.thread r.number e h) s.0 ∙ ap (λ k. Some (byte_of e.read k)) (sym s.1))
    where
      by : Is r.thread r.number e → r.number ≡ 1 → slice_get run.initial (e.address + 0) ≡ Some (byte_of e.read 0)
      by (wrote a l n is) one = absurd (omega (arith, n, one))
      by (read_other a l n is) one = subst (λ (e : Event). slice_get run.initial (e.address + 0) ≡ Some (byte_of e.read 0)) is (at r.thread a l)
        where
          at : (t a : ℕ) → t + a ≡ 1 → slice_get run.initial (a + 0) ≡ Some 0
          at t zero l = refl
          at t (suc zero) l = refl
          at t (suc (suc a)) l = absurd (omega (arith, l))

  own : (r v : EventKey) (e : Event) (k : ℕ) (w : EventId) → x.event_of r ≡ Some e → ReadsFrom x r k w → SequencedBefore x v r → Writes x (At v) (e.address + k) → ⊥
  own r v e k w h from s writes =
      let f = some-is (x.event_of v) s.first in
      by (which r.thread r.number e h) (which v.thread v.number f.0 f.1) f.1
    where
      k-zero : k ≡ 0
      k-zero = (source r.thread r.number k w from).1

      by : Is r.thread r.number e → {f : Event} → Is v.thread v.number f → x.event_of v ≡ Some f → ⊥
      by (wrote a l n is) f at = let one = (source r.thread r.number k w from).0 in omega (arith, n, one)
      by (read_other a l n is) (read_other b m n' is') at = let l = s.earlier in omega (arith, n, n', l)
      by (read_other a l n is) {f} (wrote b m n' is') at =
          let p = event-writes x v f (e.address + k) at writes in
          let low = p.1.0 in
          let high = p.1.1 in
          let z = k-zero in
          let ea : e.address ≡ a = ap (λ (e : Event). e.address) (sym is) in
          let fa : f.address ≡ v.thread = ap (λ (e : Event). e.address) (sym is') in
          let fw : bytes_of f.width ≡ 1 = ap (λ (e : Event). bytes_of e.width) (sym is') in
          let t = s.same_thread in
          omega (arith, low, high, z, ea, fa, fw, t, l)

  pub unsynchronized : IsUnsynchronized x
  unsynchronized = record {
    threads = λ r u k from. absurd (not-event r u k from);
    ranges = λ r u k e f from. absurd (not-event r u k from);
    values = values;
    places = λ a b s.
        let a_small = small a.thread a.number s.first in
        let b_small = small b.thread b.number s.second in
        let p = place-is a.thread a.number a_small.0 a_small.1 in
        let q = place-is b.thread b.number b_small.0 b_small.1 in
        let t = s.same_thread in
        let l = s.earlier in
        omega (arith, p, q, t, l);
    own = own;
  }

  -- in no order is each byte read that of its last write
  pub not-sequential : IsSequentialInNoOrder run
  not-sequential order listed sequential =
      let first = sequential.in_threads (key 0 0) (key 0 1) (record { first = refl; second = refl; same_thread = refl; earlier = omega arith }) in
      let second = sequential.in_threads (key 1 0) (key 1 1) (record { first = refl; second = refl; same_thread = refl; earlier = omega arith }) in
      let one = (sequential.takes_last (key 0 1) (read 0 1) 0 Init refl refl).last (At (key 1 0)) refl in
      let other = (sequential.takes_last (key 1 1) (read 1 0) 0 Init refl refl).last (At (key 0 0)) refl in
      ⊎_elim
      (λ (l : place y (At (key 1 0)) < place y (At (key 0 1))). let h = one l in omega (arith, h))
      (λ (l : place y (At (key 0 1)) ≤ place y (At (key 1 0))). ⊎_elim
      (λ (m : place y (At (key 0 0)) < place y (At (key 1 1))). let h = other m in omega (arith, h))
      (λ (m : place y (At (key 1 1)) ≤ place y (At (key 0 0))). omega (arith, l, m, first, second))
      (cases_lt (place y (At (key 0 0))) (place y (At (key 1 1)))))
      (cases_lt (place y (At (key 1 0))) (place y (At (key 0 1))))
    where
      y : Execution
      y = execution (with_order run order)

  atomic-as : (t n : ℕ) (e : Event) → Is t n e → is_atomic e ≡ is_sequential o
  atomic-as t n e (wrote a l z is) = ap is_atomic (sym is)
  atomic-as t n e (read_other a l z is) = ap is_atomic (sym is)

  one-byte : (t n : ℕ) (e : Event) → Is t n e → e.width ≡ One
  one-byte t n e (wrote a l z is) = ap (λ (e : Event). e.width) (sym is)
  one-byte t n e (read_other a l z is) = ap (λ (e : Event). e.width) (sym is)

  -- events that have a byte in common have one range
  one-range : (a b : EventKey) (e f : Event) → x.event_of a ≡ Some e → x.event_of b ≡ Some f → Overlap e f → range_of e ≡ range_of f
  one-range a b e f is_a is_b o =
      let v = one-byte a.thread a.number e (which a.thread a.number e is_a) in
      let w = one-byte b.thread b.number f (which b.thread b.number f is_b) in
      let v1 : bytes_of e.width ≡ 1 = ap bytes_of v in
      let w1 : bytes_of f.width ≡ 1 = ap bytes_of w in
      let l = o.1.0 in
      let m = o.1.1 in
      let l' = o.2.0 in
      let m' = o.2.1 in
      let at : e.address ≡ f.address = omega (arith, v1, w1, l, m, l', m') in
      let width : e.width ≡ f.width = v ∙ sym w in
      λ i. record { address = at i; width = width i }

  pub no-standard-race : HasNoStandardRace x
  no-standard-race a b race = by race.conflict
    where
      by : Conflict x a b race.first race.second → ⊥
      by (takes from) = not-event a b from.0 from.1
      by (taken from) = not-event b a from.0 from.1
      by (both_write f g overlap) = both (which a.thread a.number race.first race.is_first) (which b.thread b.number race.second race.is_second)
        where
          both : Is a.thread a.number race.first → Is b.thread b.number race.second → ⊥
          both (read_other c l n is) q = let h : true ≡ false = sym f ∙ ap writes (sym is) in false≢true (sym h)
          both (wrote c l n is) (read_other d l' n' is') = let h : true ≡ false = sym g ∙ ap writes (sym is') in false≢true (sym h)
          both (wrote c l n is) (wrote d l' n' is') =
              let same = one-range a b race.first race.second race.is_first race.is_second overlap in
              let s : race.first.address ≡ race.second.address = ap (λ (r : Range). r.address) same in
              let p : race.first.address ≡ a.thread = ap (λ (e : Event). e.address) (sym is) in
              let q : race.second.address ≡ b.thread = ap (λ (e : Event). e.address) (sym is') in
              let t : a.thread ≡ b.thread = omega (arith, s, p, q) in
              let m : a.number ≡ b.number = n ∙ sym n' in
              race.apart (λ i. record { thread = t i; number = m i })

-- with plain accesses
pub plain-is-valid : IsValid (execution (run Unordered))
plain-is-valid = is-valid (execution (run Unordered)) (unsynchronized Unordered) (keeps-atomics (execution (run Unordered)) (unsynchronized Unordered)
    (λ r e k w v is from atomic writing h before. false≢true (sym (atomic-as Unordered r.thread r.number e (which Unordered r.thread r.number e is)) ∙ atomic)))

pub standard-races-are-not-enough : StandardRacesAreNotEnough
standard-races-are-not-enough = record {
  run = run Unordered;
  shaped = shaped Unordered;
  valid = plain-is-valid;
  race_free = no-standard-race Unordered;
  not_sequential = not-sequential Unordered;
}

-- with atomic accesses
atomic-has-no-race : HasNoRace (execution (run SeqCst))
atomic-has-no-race a b race = ⊎_elim
    (λ (f : is_atomic race.first ≡ false). false≢true (sym f ∙ atomic-as SeqCst a.thread a.number race.first (which SeqCst a.thread a.number race.first race.is_first)))
    (λ (h : (is_atomic race.second ≡ false) ⊎ (range_of race.first ≢ range_of race.second)). ⊎_elim
    (λ (f : is_atomic race.second ≡ false). false≢true (sym f ∙ atomic-as SeqCst b.thread b.number race.second (which SeqCst b.thread b.number race.second race.is_second)))
    (λ (apart : range_of race.first ≢ range_of race.second). apart (one-range SeqCst a b race.first race.second race.is_first race.is_second race.overlap))
    h)
    race.weak

pub third-case-is-needed : ThirdCaseIsNeeded
third-case-is-needed = record {
  run = run SeqCst;
  shaped = shaped SeqCst;
  valid = record {
    keeps_written_values = values SeqCst;
    keeps_order = keeps-order (execution (run SeqCst)) (unsynchronized SeqCst);
    keeps_coherence = keeps-coherence (execution (run SeqCst)) (unsynchronized SeqCst);
    keeps_no_tearing = keeps-no-tearing (execution (run SeqCst)) (unsynchronized SeqCst);
    keeps_other_cases = λ r e k w is from v c other writing after before o. keeps-other-cases (execution (run SeqCst)) (unsynchronized SeqCst) r e k w v c from o other;
  };
  race_free = atomic-has-no-race;
  not_sequential = not-sequential SeqCst;
}
