-- The threads are lanes of the graph: in its thread each event reaches the later ones.
use Rattle.std.proofs.Common.{◌≡◌, ℕ, ◌+◌, ◌<◌, ◌≤◌, List, [], length, get_or, sym, ap, ◌∙◌, subst, arith, inl, ⊎_elim}
use Rattle.std.specs.Prelude.{slice_index}
use Rattle.std.proofs.lemmas.Bool.{cases_lt}
use Rattle.std.proofs.lemmas.List.{get_or-map, length-map}
use Rattle.std.proofs.lemmas.Option.{slice_get-get_or}
use Rattle.wm_event.specs.declared.event.EventKey.{EventKey}
use Rattle.wm_event.specs.declared.event.EventId.TheVariants.{At}
use Rattle.wm_event.specs.LoggedRun.{LoggedRun, execution}
use Rattle.wm_event.specs.Execution.{place}
use Rattle.wm_event.specs.Rules.{KeepsOrder}
use Rattle.wm_event.specs.Shape.{ListsEachOnce}
use Rattle.wm_event.proofs.LogLemmas.{thread_inside}
use Rattle.wm_closure.specs.Graph.{AreLanes, Reaches}
use Rattle.wm_hb.specs.Steps.{AreThreads, IsGraphOf, StandsAt}
use Rattle.wm_hb.proofs.Bridge.{edge_reaches, nowhere}
use Rattle.wm_hb.proofs.FaultLemmas.{same_key_parts}
use Rattle.wm_hb.proofs.OrderLaws.{place_is}

module _ (x : LoggedRun) (graph : List (List ℕ)) (threads : List ℕ) (is : IsGraphOf x graph) (order : ListsEachOnce x.log x.witness.order) (agrees : KeepsOrder (execution x)) (are : AreThreads x threads) where
  key_at : ℕ → EventKey
  key_at n = get_or x.witness.order n nowhere

  stands : (n : ℕ) → n < length graph → StandsAt x n (get_or x.witness.order n nowhere)
  stands n l = let size = is.size in slice_get-get_or x.witness.order n nowhere (omega (arith, l, size))

  thread_at : (n : ℕ) → n < length graph → slice_index threads n ≡ (get_or x.witness.order n nowhere).thread
  thread_at n l = let size = is.size in rw are (get_or-map (λ (key : EventKey). key.thread) x.witness.order n nowhere 0 (omega (arith, l, size)))

  linked : (p q : ℕ) → p < q → q < length graph → slice_index threads p ≡ slice_index threads q → Reaches graph p q
  linked p q less l same =
      let a = get_or x.witness.order p nowhere in
      let b = get_or x.witness.order q nowhere in
      let lp : p < length graph = omega (arith, less, l) in
      let at_a : StandsAt x p a = stands p lp in
      let at_b : StandsAt x q b = stands q l in
      let there_a = order.events p a at_a in
      let there_b = order.events q b at_b in
      let t : a.thread ≡ b.thread = sym (thread_at p lp) ∙ same ∙ thread_at q l in
      let pa : place (execution x) (At a) ≡ 1 + p = place_is x order p a at_a in
      let pb : place (execution x) (At b) ≡ 1 + q = place_is x order q b at_b in ⊎_elim
      (λ (earlier : a.number < b.number). edge_reaches x graph is order p q a b at_a at_b (inl (record { first = there_a; second = there_b; same_thread = t; earlier = earlier })))
      (λ (late : b.number ≤ a.number). ⊎_elim
      (λ (earlier : b.number < a.number).
      let back : place (execution x) (At b) < place (execution x) (At a) = agrees (At b) (At a) ([], inl (record { first = there_b; second = there_a; same_thread = sym t; earlier = earlier })) in
      absurd (omega (arith, back, pa, pb, less)))
      (λ (not : a.number ≤ b.number).
      let e : a ≡ b = same_key_parts a b t (omega (arith, late, not)) in
      let one : p ≡ q = order.once p q b (subst (λ k. StandsAt x p k) e at_a) at_b in
      absurd (omega (arith, one, less)))
      (cases_lt b.number a.number))
      (cases_lt a.number b.number)

  pub are_lanes : AreLanes graph threads (length x.log)
  are_lanes = record {
    size = (let size = is.size in ap length are ∙ length-map x.witness.order (λ (key : EventKey). key.thread) ∙ sym size);
    inside = λ n l. rw (thread_at n l) (thread_inside x.log (get_or x.witness.order n nowhere) (order.events n (get_or x.witness.order n nowhere) (stands n l)));
    linked = linked;
  }
