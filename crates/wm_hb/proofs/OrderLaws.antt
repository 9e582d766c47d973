-- The graph is in order, and what chains begin and end at is there.
use Rattle.std.proofs.Common.{◌≡◌, ℕ, ◌+◌, ◌<◌, List, [], ◌∷◌, false, length, get_or, slice_get, Option, None, Some, IsSome, IsTrue, refl, sym, ap, subst, arith, ⊎_elim, ◌↔◌}
use Rattle.std.proofs.lemmas.Option.{slice_get-get_or}
use Rattle.wm_event.specs.declared.event.EventKey.{EventKey}
use Rattle.wm_event.specs.declared.event.EventId.{EventId}
use Rattle.wm_event.specs.declared.event.EventId.TheVariants.{Init, At}
use Rattle.wm_event.specs.Log.{event_in}
use Rattle.wm_event.specs.Execution.{place}
use Rattle.wm_event.specs.LoggedRun.{LoggedRun, execution}
use Rattle.wm_event.specs.Rules.{KeepsOrder}
use Rattle.wm_event.specs.Shape.{ListsEachOnce}
use Rattle.wm_event.specs.HappensBefore.{SequencedBefore, SynchronizesWith, Edge, Chain as HbChain, HappensBefore}
use Rattle.wm_event.proofs.PlaceLemmas.{position_listed}
use Rattle.wm_closure.specs.Graph.{IsOrdered}
use Rattle.wm_hb.specs.Steps.{StandsAt, IsGraphOf}
use Rattle.wm_hb.proofs.Bridge.{edge_inside, step_edge}

pub place_is : (x : LoggedRun) → ListsEachOnce x.log x.witness.order → (n : ℕ) (key : EventKey) → StandsAt x n key → place (execution x) (At key) ≡ 1 + n
place_is x order n key at = ap (λ k. 1 + k) (position_listed x.log x.witness.order order n key at)

pub graph_ordered : (x : LoggedRun) (graph : List (List ℕ)) → IsGraphOf x graph → ListsEachOnce x.log x.witness.order → KeepsOrder (execution x) → IsOrdered graph
graph_ordered x graph is order agrees m n h =
    let size = is.size in
    let l : n < length x.witness.order = (let l = edge_inside graph m n h in omega (arith, l, size)) in
    let b : EventKey = get_or x.witness.order n (record { thread = 0; number = 0 }) in
    let at_b : StandsAt x n b = slice_get-get_or x.witness.order n (record { thread = 0; number = 0 }) l in
    let s = (is.edges n b at_b m).0 h in
    let before : place (execution x) (At s.0) < place (execution x) (At b) = agrees (At s.0) (At b) ([], step_edge x s.0 b s.2) in
    let p : place (execution x) (At s.0) ≡ 1 + m = place_is x order m s.0 s.1 in
    let q : place (execution x) (At b) ≡ 1 + n = place_is x order n b at_b in
    omega (arith, before, p, q)

module _ (x : LoggedRun) where
  end_edge : (a : EventId) (c : EventKey) → Edge (execution x) a (At c) → IsSome (event_in x.log c)
  end_edge Init c e = e
  end_edge (At a) c e = ⊎_elim (λ (s : SequencedBefore (execution x) a c). s.second) (λ (s : SynchronizesWith (execution x) a c). subst (λ o. IsSome o) (sym s.is_reader) refl) e

  end_chain : (ids : List EventId) (a : EventId) (c : EventKey) → HbChain (execution x) a ids (At c) → IsSome (event_in x.log c)
  end_chain [] a c h = end_edge a c h
  end_chain (m ∷ ids) a c h = end_chain ids m c h.1

  no_edge : (a : EventId) → Edge (execution x) a Init → ⊥
  no_edge Init e = e
  no_edge (At a) e = e

  pub never_init : (ids : List EventId) (a : EventId) → HbChain (execution x) a ids Init → ⊥
  never_init [] a h = no_edge a h
  never_init (m ∷ ids) a h = never_init ids m h.1

  start_edge : (a : EventKey) (c : EventId) → Edge (execution x) (At a) c → IsSome (event_in x.log a)
  start_edge a Init e = absurd e
  start_edge a (At c) e = ⊎_elim (λ (s : SequencedBefore (execution x) a c). s.first) (λ (s : SynchronizesWith (execution x) a c). subst (λ o. IsSome o) (sym s.is_writer) refl) e

  pub start_there : (a : EventKey) (b : EventId) → HappensBefore (execution x) (At a) b → IsSome (event_in x.log a)
  start_there a b h = from h.0 h.1
    where
      from : (ids : List EventId) → HbChain (execution x) (At a) ids b → IsSome (event_in x.log a)
      from [] h = start_edge a b h
      from (m ∷ ids) h = start_edge a m h.0

  pub end_there : (a : EventId) (b : EventKey) → HappensBefore (execution x) a (At b) → IsSome (event_in x.log b)
  end_there a b h = end_chain h.0 a b h.1

none_some : {X : Type 0} (o : Option X) → o ≡ None → IsSome o → ⊥
none_some None e s = absurd (cc)
none_some (Some v) e s = absurd (cc)

module _ (x : LoggedRun) where
  pub not_from : (a : EventKey) (b : EventId) → event_in x.log a ≡ None → (IsTrue false ↔ HappensBefore (execution x) (At a) b)
  not_from a b e = ((λ t. absurd (cc)), (λ h. absurd (none_some (event_in x.log a) e (start_there x a b h))))

  pub not_to : (a : EventId) (b : EventKey) → event_in x.log b ≡ None → (IsTrue false ↔ HappensBefore (execution x) a (At b))
  not_to a b e = ((λ t. absurd (cc)), (λ h. absurd (none_some (event_in x.log b) e (end_there x a b h))))

  pub not_init : (a b : EventId) → b ≡ Init → (IsTrue false ↔ HappensBefore (execution x) a b)
  not_init a b e = ((λ t. absurd (cc)), (λ h. let g : HappensBefore (execution x) a Init = subst (λ b. HappensBefore (execution x) a b) e h in absurd (never_init x g.0 a g.1)))

  pub from_init : (b : EventKey) → (IsSome (event_in x.log b) ↔ HappensBefore (execution x) Init (At b))
  from_init b = ((λ t. ([], t)), (λ h. end_there x Init b h))
