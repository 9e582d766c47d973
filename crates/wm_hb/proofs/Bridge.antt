-- A chain of the graph is a chain of happens-before, and the other way round.
use Rattle.std.proofs.Common.{◌≡◌, ℕ, ◌+◌, ◌-◌, ◌<◌, ◌≤◌, zero, suc, List, [], ◌∷◌, length, get_or, IsSome, refl, sym, ◌∙◌, subst, arith, inl, inr, ⊎_elim, ◌↔◌}
use Rattle.std.proofs.lemmas.Bool.{cases_lt}
use Rattle.std.proofs.lemmas.Grind.{common_steps}
use Rattle.std.proofs.lemmas.Option.{slice_get-get_or, gets, same_Some}
use Rattle.wm_event.specs.declared.event.EventKey.{EventKey}
use Rattle.wm_event.specs.declared.event.EventId.{EventId}
use Rattle.wm_event.specs.declared.event.EventId.TheVariants.{Init, At}
use Rattle.wm_event.specs.declared.log.ThreadLog.{ThreadLog}
use Rattle.wm_event.specs.Log.{event_in}
use Rattle.wm_event.specs.LoggedRun.{LoggedRun, execution}
use Rattle.wm_event.specs.Shape.{ListsEachOnce}
use Rattle.wm_event.specs.HappensBefore.{SequencedBefore, SynchronizesWith, Edge, Chain as HbChain, HappensBefore}
use Rattle.wm_closure.specs.Graph.{HasEdge, Chain, Reaches}
use Rattle.wm_closure.proofs.Chains.{chain_inside, reaches_join}
use Rattle.wm_hb.specs.Steps.{IsStep, StandsAt, IsGraphOf}

pub nowhere : EventKey
nowhere = record { thread = 0; number = 0 }

pub step_edge : (x : LoggedRun) (p r : EventKey) → IsStep x p r → Edge (execution x) (At p) (At r)
step_edge x p r s = ⊎_elim (λ (h : SequencedBefore (execution x) p r × (p.number + 1 ≡ r.number)). inl h.0) (λ (h : SynchronizesWith (execution x) p r). inr h) s

pub edge_inside : (graph : List (List ℕ)) (m k : ℕ) → HasEdge graph m k → k < length graph
edge_inside graph m k h = ⊎_elim (λ (l : k < length graph). l) (λ (l : length graph ≤ k). absurd (chain_inside graph m [] k l h)) (cases_lt k (length graph))

pub earlier_there : (log : List ThreadLog) (t i j : ℕ) → i < j → IsSome (event_in log (record { thread = t; number = j })) → IsSome (event_in log (record { thread = t; number = i }))
earlier_there log t i j h there = grind (arith, common_steps, gets)

module _ (x : LoggedRun) (graph : List (List ℕ)) (is : IsGraphOf x graph) (order : ListsEachOnce x.log x.witness.order) where
  edge_of : (m n : ℕ) (a b : EventKey) → StandsAt x m a → StandsAt x n b → HasEdge graph m n → Edge (execution x) (At a) (At b)
  edge_of m n a b at_a at_b h =
      let s = (is.edges n b at_b m).0 h in
      let e : a ≡ s.0 = same_Some a s.0 (sym at_a ∙ s.1) in
      step_edge x a b (subst (λ p. IsStep x p b) (sym e) s.2)

  chain_happens : (m : ℕ) (ms : List ℕ) (n : ℕ) (a b : EventKey) → StandsAt x m a → StandsAt x n b → Chain graph m ms n → HappensBefore (execution x) (At a) (At b)
  chain_happens m [] n a b at_a at_b h = ([], edge_of m n a b at_a at_b h)
  chain_happens m (k ∷ ks) n a b at_a at_b h =
      let size = is.size in
      let inside : k < length x.witness.order = (let l = edge_inside graph m k h.0 in omega (arith, l, size)) in
      let c = get_or x.witness.order k nowhere in
      let at_c : StandsAt x k c = slice_get-get_or x.witness.order k nowhere inside in
      let rest = chain_happens k ks n c b at_c at_b h.1 in
      (At c ∷ rest.0, (edge_of m k a c at_a at_c h.0, rest.1))

  step_reaches : (m n : ℕ) (a b : EventKey) → StandsAt x m a → StandsAt x n b → IsStep x a b → Reaches graph m n
  step_reaches m n a b at_a at_b s = ([], (is.edges n b at_b m).1 (a, at_a, s))

  thread_reaches : (d m n t i j : ℕ) → j ≡ i + d + 1 → StandsAt x m (record { thread = t; number = i }) → StandsAt x n (record { thread = t; number = j }) → Reaches graph m n
  thread_reaches zero m n t i j e at_a at_b =
      let there = order.events n (record { thread = t; number = j }) at_b in
      let l : i < j = omega arith in
      step_reaches m n (record { thread = t; number = i }) (record { thread = t; number = j }) at_a at_b
      (inl (record { first = earlier_there x.log t i j l there; second = there; same_thread = refl; earlier = l }, omega arith))
  thread_reaches (suc d) m n t i j e at_a at_b =
      let c : EventKey = record { thread = t; number = i + d + 1 } in
      let there = order.events n (record { thread = t; number = j }) at_b in
      let l : i + d + 1 < j = omega arith in
      let there_c : IsSome (event_in x.log c) = earlier_there x.log t (i + d + 1) j l there in
      let k = order.listed c there_c in
      let first : Reaches graph m k.0 = thread_reaches d m k.0 t i (i + d + 1) refl at_a k.1 in
      let next : Reaches graph k.0 n = step_reaches k.0 n c (record { thread = t; number = j }) k.1 at_b
      (inl (record { first = there_c; second = there; same_thread = refl; earlier = l }, omega arith)) in
      reaches_join graph m k.0 n first next

  pub edge_reaches : (m n : ℕ) (a b : EventKey) → StandsAt x m a → StandsAt x n b → Edge (execution x) (At a) (At b) → Reaches graph m n
  edge_reaches m n a b at_a at_b e = ⊎_elim
      (λ (s : SequencedBefore (execution x) a b). thread_reaches (b.number - a.number - 1) m n b.thread a.number b.number (let l = s.earlier in omega arith)
      (subst (λ t. StandsAt x m (record { thread = t; number = a.number })) s.same_thread at_a) at_b)
      (λ (s : SynchronizesWith (execution x) a b). step_reaches m n a b at_a at_b (inr s))
      e

  end_there : (a c : EventKey) → Edge (execution x) (At a) (At c) → IsSome (event_in x.log c)
  end_there a c e = ⊎_elim (λ (s : SequencedBefore (execution x) a c). s.second) (λ (s : SynchronizesWith (execution x) a c). subst (λ o. IsSome o) (sym s.is_reader) refl) e

  happens_chain : (between : List EventId) (m n : ℕ) (a b : EventKey) → StandsAt x m a → StandsAt x n b → HbChain (execution x) (At a) between (At b) → Reaches graph m n
  happens_chain [] m n a b at_a at_b h = edge_reaches m n a b at_a at_b h
  happens_chain (Init ∷ ids) m n a b at_a at_b h = absurd h.0
  happens_chain (At c ∷ ids) m n a b at_a at_b h =
      let k = order.listed c (end_there a c h.0) in
      reaches_join graph m k.0 n (edge_reaches m k.0 a c at_a k.1 h.0) (happens_chain ids k.0 n c b k.1 at_b h.1)

  -- the graph has exactly the chains of the execution
  pub reaches_happens : (m n : ℕ) (a b : EventKey) → StandsAt x m a → StandsAt x n b → Reaches graph m n ↔ HappensBefore (execution x) (At a) (At b)
  reaches_happens m n a b at_a at_b = ((λ r. chain_happens m r.0 n a b at_a at_b r.1), (λ h. happens_chain h.0 m n a b at_a at_b h.1))
