-- The first event of a thread, and of several, among those that pass a test and of which something holds that holds of all later ones too.
use Rattle.std.proofs.Common.{◌≡◌, ℕ, zero, suc, ◌+◌, ◌<◌, ◌≤◌, List, [], ◌∷◌, Bool, true, false, ltb, length, map, slice_get, Option, None, Some, IsSome, refl, sym, ap, ◌∙◌, subst, arith, ⊎_elim, if◌then◌else◌}
use Rattle.std.proofs.lemmas.Bool.{cases_lt}
use Rattle.std.proofs.lemmas.Option.{same_Some, slice_get_within}
use borrow.Author.Tests.{ltb-true, ltb-false}
use Rattle.wm_event.specs.declared.event.Event.{Event}
use Rattle.wm_event.specs.declared.event.EventKey.{EventKey}
use Rattle.wm_event.specs.declared.event.EventId.{EventId}
use Rattle.wm_event.specs.declared.event.EventId.TheVariants.{Init, At}
use Rattle.wm_event.specs.Event.{key_of}
use Rattle.wm_event.specs.Execution.{Execution, place}
use Rattle.wm_event.specs.HappensBefore.{HappensBefore}
use Rattle.wm_event.specs.Log.{HasKeys, event_in}
use Rattle.wm_event.specs.LoggedRun.{LoggedRun, execution}
use Rattle.wm_event.specs.Rules.{KeepsOrder}
use Rattle.wm_event.specs.Shape.{ListsEachOnce}
use Rattle.wm_event.specs.Writes.{writes_byte}
use Rattle.wm_event.proofs.LogLemmas.{thread_inside}
use Rattle.wm_hb.specs.Sequence.{HoldsFrom}
use Rattle.wm_hb.proofs.SequenceLemmas.{before_join}
use Rattle.wm_hb.proofs.ThreadLemmas.{event_among, in_sequence, its_event, thread_ids}
use Rattle.wm_rules.specs.Earliest.{FindsBelow, FindsInThread, IsBelow, IsInThread, earlier_of}
use Rattle.wm_rules.specs.Others.{FindsListed, WritesBetween}
use Rattle.wm_rules.proofs.Before.{before_from}
use Rattle.wm_rules.proofs.BetweenLemmas.{stands_at}

-- Init is no event of a thread
pub no_init : (ks : List EventKey) (i : ℕ) → slice_get (map At ks) i ≡ Some Init → ⊥
no_init [] i at = absurd (cc)
no_init (k ∷ ks) zero at = absurd (let e = same_Some (At k) Init at in cc)
no_init (k ∷ ks) (suc i) at = no_init ks i at

-- P holds only of events that pass the test and of which T holds, and of such an event as soon as it holds of one that it happens before
pub record HoldsSooner (run : LoggedRun) (p : EventKey → Bool) (T : EventId → Type 0) (P : EventKey → Type 0) : Type 0 where
  pub there : (v : EventKey) → P v → IsSome (event_in run.log v)
  pub passes : (v : EventKey) → P v → p v ≡ true
  pub holds : (v : EventKey) → P v → T (At v)
  pub sooner : (u v : EventKey) → p u ≡ true → T (At u) → HappensBefore (execution run) (At u) (At v) → P v → P u

-- the first of a thread's events of which T holds
module _ (run : LoggedRun) (keys : HasKeys run.log) (agrees : KeepsOrder (execution run)) (t : ℕ) (p : EventKey → Bool) (T : EventId → Type 0) (P : EventKey → Type 0)
    (says : HoldsSooner run p T P) (n : ℕ) (turn : HoldsFrom T (thread_ids run keys t p) n) where
  among : (v : EventKey) → IsInThread t P v → (i : ℕ) × (n ≤ i) × (slice_get (thread_ids run keys t p) i ≡ Some (At v))
  among v q =
      let l = event_among run keys t p v q.0 (says.there v q.1) (says.passes v q.1) in
      (l.0, ⊎_elim (λ (h : l.0 < n). absurd (turn.fails l.0 (At v) h l.1 (says.holds v q.1))) (λ (h : n ≤ l.0). h) (cases_lt l.0 n), l.1)

  -- if there is none, P holds of none
  pub none_in_thread : slice_get (thread_ids run keys t p) n ≡ None → FindsInThread (execution run) t P None
  none_in_thread past v q =
      let m = among v q in
      let inside : m.0 < length (thread_ids run keys t p) = slice_get_within (thread_ids run keys t p) m.0 (At v) m.2 in
      shorter (thread_ids run keys t p) n m.0 past m.1 inside
    where
      shorter : (xs : List EventId) (n i : ℕ) → slice_get xs n ≡ None → n ≤ i → i < length xs → ⊥
      shorter [] n i none l inside = absurd (omega arith)
      shorter (x ∷ xs) zero i none l inside = absurd (cc)
      shorter (x ∷ xs) (suc n) zero none l inside = absurd (omega arith)
      shorter (x ∷ xs) (suc n) (suc i) none l inside = shorter xs n i none (omega arith) (omega arith)

  module _ (key : EventKey) (at : slice_get (thread_ids run keys t p) n ≡ Some (At key)) where
    -- each one that P holds of is no earlier, and then P holds of the first too
    no_earlier : (v : EventKey) → IsInThread t P v → P key × (place (execution run) (At key) ≤ place (execution run) (At v))
    no_earlier v q =
        let m = among v q in
        ⊎_elim
        (λ (l : n < m.0).
        let b = in_sequence run keys t p n m.0 (At key) (At v) l at m.2 in
        let o = agrees (At key) (At v) b in
        (says.sooner key v (its_event run keys t p n key at).1 (turn.holds n (At key) (omega arith) at) b q.1, omega (arith, o)))
        (λ (l : m.0 ≤ n).
        let i : n ≡ m.0 = omega (arith, m.1, l) in
        let same : key ≡ v = key_same key v (sym at ∙ ap (slice_get (thread_ids run keys t p)) i ∙ m.2) in
        let o = ap (λ (k : EventKey). place (execution run) (At k)) same in
        (subst P (sym same) q.1, omega (arith, o)))
        (cases_lt n m.0)
      where
        key_same : (u v : EventKey) → Some (At u) ≡ Some (At v) → u ≡ v
        key_same u v h = cc

    pub some_in_thread : P key → FindsInThread (execution run) t P (Some key)
    some_in_thread h = (((its_event run keys t p n key at).0, h), λ v q. (no_earlier v q).1)

    pub fails_in_thread : (P key → ⊥) → FindsInThread (execution run) t P None
    fails_in_thread not v q = not (no_earlier v q).0

-- a write that happens between a read and its writer
pub written_sooner : (run : LoggedRun) (e : Event) (k : ℕ) (w : EventId) → HoldsSooner run (writes_byte run.log (e.address + k)) (λ v. HappensBefore (execution run) w v) (WritesBetween run e k w)
written_sooner run e k w = record {
  there = λ v h. before_from run (At v) (At (key_of e)) h.before;
  passes = λ v h. h.writes;
  holds = λ v h. h.after;
  sooner = λ u v writes after b h. record { writes = writes; after = after; before = before_join (execution run) (At u) (At v) (At (key_of e)) b h.before };
}

-- of the threads so far and one more
module _ (x : Execution) (P : EventKey → Type 0) (t : ℕ) where
  split : (v : EventKey) → IsBelow (t + 1) P v → (A : Type 0) → (IsBelow t P v → A) → (IsInThread t P v → A) → A
  split v p A below here = ⊎_elim (λ (l : v.thread < t). below (l, p.1)) (λ (l : t ≤ v.thread). let q = p.0 in here (omega (arith, q, l), p.1)) (cases_lt v.thread t)

  pub one_thread_more : (a b : Option EventKey) → FindsBelow x t P a → FindsInThread x t P b → FindsBelow x (t + 1) P (earlier_of x a b)
  one_thread_more None None none here = λ v p. split v p ⊥ (none v) (here v)
  one_thread_more None (Some key) none here = (
    (let q = here.0.0 in omega (arith, q), here.0.1),
    λ v p. split v p (place x (At key) ≤ place x (At v)) (λ q. absurd (none v q)) (here.1 v),
  )
  one_thread_more (Some key) None below none = (
    (let q = below.0.0 in omega (arith, q), below.0.1),
    λ v p. split v p (place x (At key) ≤ place x (At v)) (below.1 v) (λ q. absurd (none v q)),
  )
  one_thread_more (Some a) (Some b) below here = by (ltb (place x (At b)) (place x (At a))) refl
    where
      by : (s : Bool) → ltb (place x (At b)) (place x (At a)) ≡ s → FindsBelow x (t + 1) P (if s then Some b else Some a)
      by true is =
          let l = ltb-true (place x (At b)) (place x (At a)) is in (
            (let q = here.0.0 in omega (arith, q), here.0.1),
            λ v p. split v p (place x (At b) ≤ place x (At v)) (λ q. let o = below.1 v q in omega (arith, l, o)) (here.1 v),
          )
      by false is =
          let l = ltb-false (place x (At b)) (place x (At a)) is in (
            (let q = below.0.0 in omega (arith, q), below.0.1),
            λ v p. split v p (place x (At a) ≤ place x (At v)) (below.1 v) (λ q. let o = here.1 v q in omega (arith, l, o)),
          )

-- the one that comes first is the first listed
pub earliest_listed : (run : LoggedRun) → ListsEachOnce run.log run.witness.order → (P : EventKey → Type 0) → ((v : EventKey) → P v → IsSome (event_in run.log v)) → (r : Option EventKey)
    → FindsBelow (execution run) (length run.log) P r → FindsListed run.witness.order P r
earliest_listed run once P there None none = λ n key at p. none key (thread_inside run.log key (once.events n key at), p)
earliest_listed run once P there (Some key) found =
    let l = once.listed key (there key found.0.1) in
    record {
      place = l.0;
      listed = l.1;
      holds = found.0.1;
      first = λ n other less at p.
          let o = found.1 other (thread_inside run.log other (once.events n other at), p) in
          let here = stands_at run once l.0 key l.1 in
          let other_place = stands_at run once n other at in
          absurd (omega (arith, o, here, other_place, less));
    }
