-- The sources of an event, one writer after the other.
use Rattle.std.proofs.Common.{◌≡◌, ℕ, ◌+◌, ◌<◌, ◌≤◌, List, [], ◌∷◌, ◌++◌, length, Some, sym, ap, ◌∙◌, subst, arith, ◌⊎◌, inl, inr, ⊎_elim, ◌↔◌, length-append}
use Rattle.std.specs.Prelude.{slice_index}
use Rattle.std.proofs.lemmas.Bool.{cases_lt}
use Rattle.std.proofs.Math.Seq.{get_or-append_seam}
use Rattle.std.proofs.lemmas.List.{get_or_append_left}
use Rattle.std.proofs.lemmas.Option.{same_Some, slice_get_within}
use Rattle.wm_event.specs.declared.event.EventKey.{EventKey}
use Rattle.wm_event.specs.declared.event.EventId.{EventId}
use Rattle.wm_event.specs.declared.event.EventId.TheVariants.{Init, At}
use Rattle.wm_event.specs.Execution.{ReadsFrom}
use Rattle.wm_event.specs.LoggedRun.{LoggedRun, execution}
use Rattle.wm_event.specs.Witness.{writers_in}
use Rattle.wm_event.specs.Shape.{ListsEachOnce}
use Rattle.wm_event.specs.HappensBefore.{SynchronizesWith}
use Rattle.wm_closure.specs.Graph.{IsAmong, sources_of}
use Rattle.wm_hb.specs.Steps.{IsNext, IsStepWithin, StandsAt, AreSources, AreSourcesWithin, IsGraphOf}

pub among_push : (xs : List ℕ) (y m : ℕ) → IsAmong (xs ++ y ∷ []) (length (xs ++ y ∷ [])) m ↔ (IsAmong xs (length xs) m ⊎ (y ≡ m))
among_push xs y m = (to, from)
  where
    long : length (xs ++ y ∷ []) ≡ length xs + 1
    long = omega (arith, length-append xs (y ∷ []))

    to : IsAmong (xs ++ y ∷ []) (length (xs ++ y ∷ [])) m → IsAmong xs (length xs) m ⊎ (y ≡ m)
    to h = ⊎_elim
        (λ (l : h.0 < length xs). inl (h.0, l, sym (get_or_append_left xs (y ∷ []) 0 h.0 l) ∙ h.2))
        (λ (l : length xs ≤ h.0). inr (
        let u = h.1 in
        let e : length xs ≡ h.0 = omega (arith, u, l, long) in
        sym (get_or-append_seam xs y [] 0) ∙ ap (slice_index (xs ++ y ∷ [])) e ∙ h.2))
        (cases_lt h.0 (length xs))

    from : IsAmong xs (length xs) m ⊎ (y ≡ m) → IsAmong (xs ++ y ∷ []) (length (xs ++ y ∷ [])) m
    from o = ⊎_elim
        (λ (h : IsAmong xs (length xs) m). let l = h.1 in (h.0, omega (arith, l, long), get_or_append_left xs (y ∷ []) 0 h.0 l ∙ h.2))
        (λ (e : y ≡ m). (length xs, omega (arith, long), get_or-append_seam xs y [] 0 ∙ e))
        o

key_in : EventId → EventKey
key_in Init = record { thread = 0; number = 0 }
key_in (At key) = key

pub same_At : (p q : EventKey) → At p ≡ At q → p ≡ q
unfolding key_in
same_At p q e = ap key_in e

module _ (x : LoggedRun) (r : EventKey) where
  pub first_none : ((p : EventKey) → IsNext x p r → ⊥) → AreSourcesWithin x r 0 []
  first_none none m = (
    (λ h. let l = h.1 in absurd (omega (arith, l))),
    (λ s. absurd (⊎_elim
        (λ (n : IsNext x s.0 r). none s.0 n)
        (λ (w : SynchronizesWith (execution x) s.0 r × ((k : ℕ) × (k < 0) × ReadsFrom (execution x) r k (At s.0))). let l = w.1.1 in absurd (omega (arith, l)))
        s.2)),
  )

  pub first_one : ListsEachOnce x.log x.witness.order → (n : ℕ) (q : EventKey) → StandsAt x n q → IsNext x q r → AreSourcesWithin x r 0 (n ∷ [])
  first_one order n q at next m = (to, from)
    where
      to : IsAmong (n ∷ []) 1 m → (p : EventKey) × StandsAt x m p × IsStepWithin x 0 p r
      to h = let l = h.1 in let z : h.0 ≡ 0 = omega (arith, l) in
          let e : n ≡ m = subst (λ k. slice_index (n ∷ []) k ≡ m) z h.2 in (q, subst (λ m. StandsAt x m q) e at, inl next)

      from : (p : EventKey) × StandsAt x m p × IsStepWithin x 0 p r → IsAmong (n ∷ []) 1 m
      from s = ⊎_elim
          (λ (h : IsNext x s.0 r).
          let one = h.0.same_thread in let two = next.0.same_thread in
          let three = h.1 in let four = next.1 in
          let t : s.0.thread ≡ q.thread = one ∙ sym two in
          let u : s.0.number ≡ q.number = omega (arith, three, four) in
          let e : s.0 ≡ q = λ i. record { thread = t i; number = u i } in
          (0, omega arith, order.once n m q at (subst (λ p. StandsAt x m p) e s.1)))
          (λ (w : SynchronizesWith (execution x) s.0 r × ((k : ℕ) × (k < 0) × ReadsFrom (execution x) r k (At s.0))). let l = w.1.1 in absurd (omega (arith, l)))
          s.2

  module _ (n : ℕ) (w : EventId) (reads : ReadsFrom (execution x) r n w) (sources : List ℕ) (within : AreSourcesWithin x r n sources) where
    wider : (p : EventKey) → IsStepWithin x n p r → IsStepWithin x (n + 1) p r
    wider p s = ⊎_elim (λ (h : IsNext x p r). inl h)
        (λ (h : SynchronizesWith (execution x) p r × ((k : ℕ) × (k < n) × ReadsFrom (execution x) r k (At p))). let l = h.1.1 in inr (h.0, (h.1.0, omega (arith, l), h.1.2))) s

    narrower : (p : EventKey) → IsStepWithin x (n + 1) p r → IsStepWithin x n p r ⊎ ((w ≡ At p) × SynchronizesWith (execution x) p r)
    narrower p s = ⊎_elim (λ (h : IsNext x p r). inl (inl h))
        (λ (h : SynchronizesWith (execution x) p r × ((k : ℕ) × (k < n + 1) × ReadsFrom (execution x) r k (At p))). ⊎_elim
        (λ (l : h.1.0 < n). inl (inr (h.0, (h.1.0, l, h.1.2))))
        (λ (l : n ≤ h.1.0). inr (let u = h.1.1 in let e : h.1.0 ≡ n = omega (arith, l, u) in
        let there : ReadsFrom (execution x) r n (At p) = subst (λ k. ReadsFrom (execution x) r k (At p)) e h.1.2 in
        (same_Some w (At p) (sym reads ∙ there), h.0)))
        (cases_lt h.1.0 n)) s

    pub more_none : ((p : EventKey) → w ≡ At p → SynchronizesWith (execution x) p r → ⊥) → AreSourcesWithin x r (n + 1) sources
    more_none none m = (
      (λ h. let s = (within m).0 h in (s.0, s.1, wider s.0 s.2)),
      (λ s. ⊎_elim (λ (o : IsStepWithin x n s.0 r). (within m).1 (s.0, s.1, o))
          (λ (h : (w ≡ At s.0) × SynchronizesWith (execution x) s.0 r). absurd (none s.0 h.0 h.1))
          (narrower s.0 s.2)),
    )

    pub more_one : ListsEachOnce x.log x.witness.order → (place : ℕ) (q : EventKey) → w ≡ At q → StandsAt x place q → SynchronizesWith (execution x) q r → AreSourcesWithin x r (n + 1) (sources ++ place ∷ [])
    more_one order place q is at sw m =
        let push = among_push sources place m in (
          (λ h. ⊎_elim (λ (o : IsAmong sources (length sources) m). let s = (within m).0 o in (s.0, s.1, wider s.0 s.2))
              (λ (e : place ≡ m). (q, subst (λ m. StandsAt x m q) e at, inr (sw, (n, omega arith, reads ∙ ap Some is))))
              (push.0 h)),
          (λ s. ⊎_elim (λ (o : IsStepWithin x n s.0 r). push.1 (inl ((within m).1 (s.0, s.1, o))))
              (λ (h : (w ≡ At s.0) × SynchronizesWith (execution x) s.0 r).
              let e : s.0 ≡ q = same_At s.0 q (sym h.0 ∙ is) in
              push.1 (inr (order.once place m q at (subst (λ p. StandsAt x m p) e s.1))))
              (narrower s.0 s.2)),
        )

  pub sources_whole : (n : ℕ) (sources : List ℕ) → length (writers_in x.witness r) ≤ n → AreSourcesWithin x r n sources → AreSources x r sources
  sources_whole n sources size within m = (
    (λ h. let s = (within m).0 h in (
      s.0,
      s.1,
      ⊎_elim (λ (h : IsNext x s.0 r). inl h)
          (λ (h : SynchronizesWith (execution x) s.0 r × ((k : ℕ) × (k < n) × ReadsFrom (execution x) r k (At s.0))). inr h.0) s.2,
    )),
    (λ s. (within m).1 (
      s.0,
      s.1,
      ⊎_elim (λ (h : IsNext x s.0 r). inl h)
          (λ (h : SynchronizesWith (execution x) s.0 r). inr (h, (h.reads.0, below h.reads.0 s.0 h.reads.1, h.reads.1))) s.2,
    )),
  )
    where
      below : (k : ℕ) (p : EventKey) → ReadsFrom (execution x) r k (At p) → k < n
      below k p h = let l = slice_get_within (writers_in x.witness r) k (At p) h in omega (arith, l, size)

-- one event after the other
pub graph_more : (x : LoggedRun) (graph : List (List ℕ)) (n : ℕ) (sources : List ℕ) (key : EventKey) → length graph ≡ n → StandsAt x n key → AreSources x key sources
    → ((m : ℕ) (r : EventKey) → m < n → StandsAt x m r → AreSources x r (sources_of graph m)) → (m : ℕ) (r : EventKey) → m < n + 1 → StandsAt x m r → AreSources x r (sources_of (graph ++ sources ∷ []) m)
graph_more x graph n sources key size at is before m r l at_m = ⊎_elim
    (λ (h : m < n). let inside : m < length graph = omega arith in
    subst (AreSources x r) (sym (get_or_append_left graph (sources ∷ []) [] m inside)) (before m r h at_m))
    (λ (h : n ≤ m). let e : length graph ≡ m = omega arith in
    let f : n ≡ m = omega arith in
    let same : key ≡ r = same_Some key r (sym (subst (λ m. StandsAt x m key) f at) ∙ at_m) in
    let read : sources_of (graph ++ sources ∷ []) m ≡ sources = ap (λ k. sources_of (graph ++ sources ∷ []) k) (sym e) ∙ get_or-append_seam graph sources [] [] in
    subst (AreSources x r) (sym read) (subst (λ r. AreSources x r sources) same is))
    (cases_lt m n)

pub graph_whole : (x : LoggedRun) (graph : List (List ℕ)) (n : ℕ) → length graph ≡ n → length x.witness.order ≡ n
    → ((m : ℕ) (r : EventKey) → m < n → StandsAt x m r → AreSources x r (sources_of graph m)) → IsGraphOf x graph
graph_whole x graph n size whole before = record {
  size = size ∙ sym whole;
  edges = λ m r at. before m r (let l = slice_get_within x.witness.order m r at in omega (arith, l, whole)) at;
}
