-- Two threads with an update each, at overlapping ranges: of byte 0, and of bytes 0 and 1.
use Rattle.std.proofs.Common.{◌≡◌, ◌≢◌, ℕ, zero, suc, ◌+◌, ◌<◌, [], ◌∷◌, slice_get, Some, IsSome, refl, sym, ap, ◌∙◌, subst, arith}
use Rattle.std.specs.Prelude.{All}
use Rattle.std.proofs.lemmas.Bool.{false≢true}
use Rattle.std.proofs.lemmas.Option.{same_Some, none-some}
use Rattle.wm_access.specs.AccessWidth.{bytes_of}
use Rattle.wm_access.specs.declared.AccessWidth.TheVariants.{One, Two}
use Rattle.wm_access.specs.declared.MemoryOrder.TheVariants.{SeqCst}
use Rattle.wm_event.specs.declared.event.Event.{Event}
use Rattle.wm_event.specs.declared.event.EventKey.{EventKey}
use Rattle.wm_event.specs.declared.event.EventKind.TheVariants.{Update}
use Rattle.wm_event.specs.declared.event.EventId.{EventId}
use Rattle.wm_event.specs.declared.event.EventId.TheVariants.{Init, At}
use Rattle.wm_event.specs.declared.event.Range.{Range}
use Rattle.wm_event.specs.declared.log.End.TheVariants.{Cut}
use Rattle.wm_event.specs.declared.log.ThreadLog.{ThreadLog}
use Rattle.wm_event.specs.Byte.{byte_of}
use Rattle.wm_event.specs.Event.{range_of}
use Rattle.wm_event.specs.Execution.{Execution, ReadsFrom, byte_by, place}
use Rattle.wm_event.specs.Log.{event_in}
use Rattle.wm_event.specs.LoggedRun.{LoggedRun, execution}
use Rattle.wm_event.specs.Rules.{HasRange, IsValid, KeepsWrittenValues}
use Rattle.wm_event.specs.Shape.{IsGoodEvent, IsThere, IsWellShaped, ListsEachOnce}
use Rattle.wm_event.specs.Witness.{writers_in}
use Rattle.wm_standard.proofs.Unsynchronized.{IsUnsynchronized, is-valid, keeps-atomics}

abbrev pub key : ℕ → EventKey
key t = record { thread = t; number = 0 }

-- both read the value; one writes `first`, and takes its byte from `here`, the other one writes `second`, and takes byte 0
-- from `there`, and byte 1 from Init
module _ (value first second : ℕ) (here there : EventId) where
  abbrev pub update : Event
  update = record { thread = 0; number = 0; kind = Update; order = SeqCst; address = 0; width = One; read = value; written = first }

  abbrev pub wide_update : Event
  wide_update = record { thread = 1; number = 0; kind = Update; order = SeqCst; address = 0; width = Two; read = value; written = second }

  abbrev pub thread_of : Event → ThreadLog
  thread_of e = record { start = record { name = []; args = [] }; end = Cut; steps = 1; events = e ∷ [] }

  abbrev pub run : LoggedRun
  run = record {
    log = thread_of update ∷ thread_of wide_update ∷ [];
    witness = record { writers = ((here ∷ []) ∷ []) ∷ ((there ∷ Init ∷ []) ∷ []) ∷ []; order = key 0 ∷ key 1 ∷ [] };
    initial = 0 ∷ 0 ∷ 0 ∷ 0 ∷ 0 ∷ 0 ∷ 0 ∷ 0 ∷ 0 ∷ [];
  }

  abbrev pub x : Execution
  x = execution run

  pub data Is (t n : ℕ) (e : Event) : Type 0 where
    narrow : t ≡ 0 → n ≡ 0 → update ≡ e → Is t n e
    wide : t ≡ 1 → n ≡ 0 → wide_update ≡ e → Is t n e

  pub which : (t n : ℕ) (e : Event) → event_in run.log (record { thread = t; number = n }) ≡ Some e → Is t n e
  which zero zero e h = narrow refl refl (same_Some update e h)
  which zero (suc n) e h = absurd (none-some e h)
  which (suc zero) zero e h = wide refl refl (same_Some wide_update e h)
  which (suc zero) (suc n) e h = absurd (none-some e h)
  which (suc (suc t)) n e h = absurd (none-some e h)

  pub first-number : (t n : ℕ) → IsSome (event_in run.log (record { thread = t; number = n })) → n ≡ 0
  first-number zero zero h = refl
  first-number zero (suc n) h = absurd (false≢true h)
  first-number (suc zero) zero h = refl
  first-number (suc zero) (suc n) h = absurd (false≢true h)
  first-number (suc (suc t)) n h = absurd (false≢true h)

  pub data Source (t n k : ℕ) (w : EventId) : Type 0 where
    of_narrow : t ≡ 0 → n ≡ 0 → k ≡ 0 → w ≡ here → Source t n k w
    of_wide : t ≡ 1 → n ≡ 0 → k ≡ 0 → w ≡ there → Source t n k w
    of_rest : t ≡ 1 → n ≡ 0 → k ≡ 1 → w ≡ Init → Source t n k w

  pub source : (t n k : ℕ) (w : EventId) → slice_get (writers_in run.witness (record { thread = t; number = n })) k ≡ Some w → Source t n k w
  source zero zero zero w h = of_narrow refl refl refl (sym (same_Some here w h))
  source zero zero (suc k) w h = absurd (none-some w h)
  source zero (suc n) k w h = absurd (none-some w h)
  source (suc zero) zero zero w h = of_wide refl refl refl (sym (same_Some there w h))
  source (suc zero) zero (suc zero) w h = of_rest refl refl refl (sym (same_Some Init w h))
  source (suc zero) zero (suc (suc k)) w h = absurd (none-some w h)
  source (suc zero) (suc n) k w h = absurd (none-some w h)
  source (suc (suc t)) n k w h = absurd (none-some w h)

  listed-at : (m : ℕ) (q : EventKey) → slice_get run.witness.order m ≡ Some q → (q.thread < 2) × (q.number ≡ 0) × (m ≡ q.thread)
  listed-at zero q h = let s = same_Some (key 0) q h in let t = ap (λ (q : EventKey). q.thread) s in (omega (arith, t), ap (λ (q : EventKey). q.number) (sym s), t)
  listed-at (suc zero) q h = let s = same_Some (key 1) q h in let t = ap (λ (q : EventKey). q.thread) s in (omega (arith, t), ap (λ (q : EventKey). q.number) (sym s), t)
  listed-at (suc (suc m)) q h = absurd (none-some q h)

  is-there : (t n : ℕ) → t < 2 → n ≡ 0 → IsSome (event_in run.log (record { thread = t; number = n }))
  is-there t (suc n) h k = absurd (omega (arith, k))
  is-there zero zero h k = refl
  is-there (suc zero) zero h k = refl
  is-there (suc (suc t)) zero h k = absurd (omega (arith, h))

  lists : (t n : ℕ) → IsSome (event_in run.log (record { thread = t; number = n })) → (m : ℕ) × (slice_get run.witness.order m ≡ Some (record { thread = t; number = n }))
  lists zero zero h = (0, refl)
  lists zero (suc n) h = absurd (false≢true h)
  lists (suc zero) zero h = (1, refl)
  lists (suc zero) (suc n) h = absurd (false≢true h)
  lists (suc (suc t)) n h = absurd (false≢true h)

  pub order : ListsEachOnce run.log run.witness.order
  order = record {
    listed = λ q h. lists q.thread q.number h;
    events = λ m q h. let l = listed-at m q h in is-there q.thread q.number l.0 l.1;
    once = λ m n q h k. (listed-at m q h).2 ∙ sym (listed-at n q k).2;
  }

  module _ (fits : value < 256) (fits_first : first < 256) (fits_second : second < 256) (here_there : IsThere run.log here) (there_there : IsThere run.log there) where
    good : (t n : ℕ) (e : Event) → event_in run.log (record { thread = t; number = n }) ≡ Some e
        → IsGoodEvent run.log run.initial e (writers_in run.witness (record { thread = t; number = n }))
    good zero zero e h = subst (λ e. IsGoodEvent run.log run.initial e (here ∷ [])) (same_Some update e h)
        (record { in_memory = omega arith; fits = (omega (arith, fits), omega (arith, fits_first)); count = refl; there = one })
      where
        one : All (IsThere run.log) (here ∷ [])
        one zero d l = here_there
        one (suc k) d l = absurd (omega (arith, l))
    good zero (suc n) e h = absurd (none-some e h)
    good (suc zero) zero e h = subst (λ e. IsGoodEvent run.log run.initial e (there ∷ Init ∷ [])) (same_Some wide_update e h)
        (record { in_memory = omega arith; fits = (omega (arith, fits), omega (arith, fits_second)); count = refl; there = two })
      where
        two : All (IsThere run.log) (there ∷ Init ∷ [])
        two zero d l = there_there
        two (suc zero) d l = tt
        two (suc (suc k)) d l = absurd (omega (arith, l))
    good (suc zero) (suc n) e h = absurd (none-some e h)
    good (suc (suc t)) n e h = absurd (none-some e h)

    pub shaped : IsWellShaped run
    shaped = record {
      keys = λ q e h. keys q e (which q.thread q.number e h);
      few = omega arith;
      counts = refl;
      good = λ q e h. good q.thread q.number e h;
      order = order;
    }
      where
        keys : (q : EventKey) (e : Event) → Is q.thread q.number e → (e.thread ≡ q.thread) × (e.number ≡ q.number)
        keys q e (narrow t n is) = (ap (λ (e : Event). e.thread) (sym is) ∙ sym t, ap (λ (e : Event). e.number) (sym is) ∙ sym n)
        keys q e (wide t n is) = (ap (λ (e : Event). e.thread) (sym is) ∙ sym t, ap (λ (e : Event). e.number) (sym is) ∙ sym n)

  -- the writers are of other threads, and have the values
  module _ (here_other : (u : EventKey) → here ≡ At u → u.thread ≡ 1) (there_other : (u : EventKey) → there ≡ At u → u.thread ≡ 0)
      (here_value : byte_by x here 0 ≡ Some (byte_of value 0)) (there_value : byte_by x there 0 ≡ Some (byte_of value 0)) (high : byte_of value 1 ≡ 0) where
    threads : (r u : EventKey) (k : ℕ) → ReadsFrom x r k (At u) → u.thread ≢ r.thread
    threads r u k from same = by (source r.thread r.number k (At u) from)
      where
        by : Source r.thread r.number k (At u) → ⊥
        by (of_narrow t n z is) = let p = here_other u (sym is) in omega (arith, p, t, same)
        by (of_wide t n z is) = let p = there_other u (sym is) in omega (arith, p, t, same)
        by (of_rest t n z is) = cc

    ranges : (r u : EventKey) (k : ℕ) (e f : Event) → ReadsFrom x r k (At u) → x.event_of r ≡ Some e → x.event_of u ≡ Some f → range_of f ≢ range_of e
    ranges r u k e f from is_r is_u same = by (which r.thread r.number e is_r) (which u.thread u.number f is_u)
      where
        w : bytes_of f.width ≡ bytes_of e.width
        w = ap (λ (q : Range). bytes_of q.width) same

        by : Is r.thread r.number e → Is u.thread u.number f → ⊥
        by (narrow t n is) (narrow t' n' is') = threads r u k from (t' ∙ sym t)
        by (wide t n is) (wide t' n' is') = threads r u k from (t' ∙ sym t)
        by (narrow t n is) (wide t' n' is') =
            let p : 1 ≡ bytes_of e.width = ap (λ (e : Event). bytes_of e.width) is in
            let q : 2 ≡ bytes_of f.width = ap (λ (e : Event). bytes_of e.width) is' in
            let s = w in
            omega (arith, p, q, s)
        by (wide t n is) (narrow t' n' is') =
            let p : 2 ≡ bytes_of e.width = ap (λ (e : Event). bytes_of e.width) is in
            let q : 1 ≡ bytes_of f.width = ap (λ (e : Event). bytes_of e.width) is' in
            let s = w in
            omega (arith, p, q, s)

    values : KeepsWrittenValues x
    values r e k w is from = (λ s. threads r r k (from ∙ ap Some s) refl, by (which r.thread r.number e is) (source r.thread r.number k w from))
      where
        by : Is r.thread r.number e → Source r.thread r.number k w → byte_by x w (e.address + k) ≡ Some (byte_of e.read k)
        by (narrow t n is) (of_narrow t' n' z w_is) = subst (λ (e : Event). byte_by x w (e.address + k) ≡ Some (byte_of e.read k)) is
            (subst (λ k. byte_by x w (0 + k) ≡ Some (byte_of value k)) (sym z) (ap (λ w. byte_by x w 0) w_is ∙ here_value))
        by (narrow t n is) (of_wide t' n' z w_is) = absurd (omega (arith, t, t'))
        by (narrow t n is) (of_rest t' n' z w_is) = absurd (omega (arith, t, t'))
        by (wide t n is) (of_narrow t' n' z w_is) = absurd (omega (arith, t, t'))
        by (wide t n is) (of_wide t' n' z w_is) = subst (λ (e : Event). byte_by x w (e.address + k) ≡ Some (byte_of e.read k)) is
            (subst (λ k. byte_by x w (0 + k) ≡ Some (byte_of value k)) (sym z) (ap (λ w. byte_by x w 0) w_is ∙ there_value))
        by (wide t n is) (of_rest t' n' z w_is) = subst (λ (e : Event). byte_by x w (e.address + k) ≡ Some (byte_of e.read k)) is
            (subst (λ k. byte_by x w (0 + k) ≡ Some (byte_of value k)) (sym z) (ap (λ w. byte_by x w 1) w_is ∙ ap Some (sym high)))

    pub unsynchronized : IsUnsynchronized x
    unsynchronized = record {
      threads = threads;
      ranges = ranges;
      values = values;
      places = λ a b s. let n = first-number b.thread b.number s.second in let l = s.earlier in absurd (omega (arith, n, l));
      own = λ r v e k w is from s writes. let n = first-number r.thread r.number s.second in let l = s.earlier in omega (arith, n, l);
    }

    -- a write with the range of a read is the same event
    past : (r : EventKey) (e : Event) (v : EventId) → x.event_of r ≡ Some e → HasRange x v e → v ≡ At r
    past r e Init is h = absurd (none-some h.0 h.1)
    past r e (At v) is h = by (which r.thread r.number e is) (which v.thread v.number h.0 h.1)
      where
        same : v.thread ≡ r.thread → v.number ≡ r.number → At v ≡ At r
        same t n = λ i. At (record { thread = t i; number = n i })

        w : bytes_of h.0.width ≡ bytes_of e.width
        w = ap (λ (q : Range). bytes_of q.width) h.2

        by : Is r.thread r.number e → Is v.thread v.number h.0 → At v ≡ At r
        by (narrow t n is) (narrow t' n' is') = same (t' ∙ sym t) (n' ∙ sym n)
        by (wide t n is) (wide t' n' is') = same (t' ∙ sym t) (n' ∙ sym n)
        by (narrow t n is) (wide t' n' is') =
            let p : 1 ≡ bytes_of e.width = ap (λ (e : Event). bytes_of e.width) is in
            let q : 2 ≡ bytes_of h.0.width = ap (λ (e : Event). bytes_of e.width) is' in
            let s = w in
            absurd (omega (arith, p, q, s))
        by (wide t n is) (narrow t' n' is') =
            let p : 2 ≡ bytes_of e.width = ap (λ (e : Event). bytes_of e.width) is in
            let q : 1 ≡ bytes_of h.0.width = ap (λ (e : Event). bytes_of e.width) is' in
            let s = w in
            absurd (omega (arith, p, q, s))

    pub valid : IsValid x
    valid = is-valid x unsynchronized (keeps-atomics x unsynchronized
        (λ r e k w v is from atomic writing range before. let s = ap (place x) (past r e v is range) in omega (arith, s, before)))
