-- What comes first in each order in which a run is sequential.
use Rattle.std.proofs.Common.{◌≡◌, ◌≢◌, ◌⊎◌, ◌+◌, ◌<◌, ◌≤◌, ℕ, List, [], ◌∷◌, ◌++◌, IsSome, Option, None, Some, IfSome, OnSome, ap, arith, length, inl, inr, refl, subst, sym, ◌∙◌}
use Rattle.std.proofs.lemmas.Bool.{cases_order}
use Rattle.std.proofs.lemmas.List.Elements.{recursion_from_All}
use Rattle.std.specs.List.{AllByRecursion}
use Rattle.std.specs.Prelude.{option_and_then}
use Rattle.wm_event.specs.Execution.{ReadsFrom}
use Rattle.wm_event.specs.HappensBefore.{SequencedBefore}
use Rattle.wm_event.specs.LoggedRun.{LoggedRun, execution}
use Rattle.wm_event.specs.Rules.{Writes}
use Rattle.wm_event.specs.declared.event.Event.{Event}
use Rattle.wm_event.specs.declared.event.EventId.{EventId}
use Rattle.wm_event.specs.declared.event.EventId.TheVariants.{Init, At}
use Rattle.wm_event.specs.declared.event.EventKey.{EventKey}
use Rattle.wm_graph.specs.Cycle.{ComesBefore, IsCycle, IsCycleEdge, IsWay, Leads, ReadsOneOf}
use Rattle.wm_graph.specs.Sequential.{IsForced, IsSequential, IsSequentialInNoOrder, placed}
use Rattle.wm_graph.specs.declared.cycle_edge.CycleEdge.{CycleEdge}
use Rattle.wm_graph.specs.declared.cycle_edge.CycleKind.TheVariants.{Coherence, FromRead, ReadsFrom as ReadsByte}
use Rattle.wm_graph.specs.declared.ways.Way.{Way}

some_first : {A B : Type 0} (f : A → Option B) (o : Option A) → IsSome (option_and_then f o) → IsSome o
some_first f None there = there
some_first f (Some a) there = refl

some_value : {A : Type 0} (o : Option A) → IsSome o → (a : A) × (o ≡ Some a)
some_value (Some a) there = (a, refl)
some_value None there = absurd (cc)

-- the event that writes a byte is there
writes_is_there : (x : LoggedRun) (a : EventKey) (address : ℕ) → Writes (execution x) (At a) address → IsSome ((execution x).event_of a)
writes_is_there x a address writes = some_first _ ((execution x).event_of a) writes

pub forced_by_thread : (x : LoggedRun) (a b : EventKey) → SequencedBefore (execution x) a b → IsForced x a b
forced_by_thread x a b before = λ place_of order. order.in_threads a b record {
  first = before.first;
  second = before.second;
  same_thread = before.same_thread;
  earlier = before.earlier;
}

pub forced_by_read : (x : LoggedRun) (a b : EventKey) (e : Event) (k : ℕ) → (execution x).event_of b ≡ Some e → ReadsFrom (execution x) b k (At a) → IsForced x a b
forced_by_read x a b e k is reads = λ place_of order.
    let before : 1 + place_of a < 1 + place_of b = (order.takes_last b e k (At a) is reads).before in
    omega (arith, before)

pub forced_along : (x : LoggedRun) (a b c : EventKey) → IsForced x a b → IsForced x b c → IsForced x a c
forced_along x a b c one other = λ place_of order.
    let first : place_of a < place_of b = one place_of order in
    let second : place_of b < place_of c = other place_of order in
    omega (arith, first, second)

-- b is read after a, and is the last write then, so a comes before it
pub forced_by_coherence : (x : LoggedRun) (a b r : EventKey) → a ≢ b → ReadsOneOf x r (At b) a → IsForced x a r → IsForced x a b
forced_by_coherence x a b r apart one before = λ place_of order.
    let address = one.event.address + one.byte in
    let last = order.takes_last r one.event one.byte (At b) one.is_event one.reads in
    let below : place_of a < place_of r = before place_of order in
    let inside : 1 + place_of a < 1 + place_of r = omega (arith, below) in
    let upto : 1 + place_of a ≤ 1 + place_of b = last.last (At a) one.other inside in
    let differ : place_of a ≢ place_of b = λ same. apart (order.apart a b (writes_is_there x a address one.other) (writes_is_there x b address one.written) same) in
    omega (arith, upto, differ)

-- if the write came before the read, it would be the last one
not_read_after : (x : LoggedRun) (a b : EventKey) (w : EventId) → ReadsOneOf x a w b → ComesBefore x w b → (place_of : EventKey → ℕ) → IsSequential (placed x place_of) → place_of b < place_of a → ⊥
not_read_after x a b Init one before place_of order after =
    let last = order.takes_last a one.event one.byte Init one.is_event one.reads in
    let inside : 1 + place_of b < 1 + place_of a = omega (arith, after) in
    let upto : 1 + place_of b ≤ 0 = last.last (At b) one.other inside in
    omega (arith, upto)
not_read_after x a b (At v) one before place_of order after =
    let last = order.takes_last a one.event one.byte (At v) one.is_event one.reads in
    let inside : 1 + place_of b < 1 + place_of a = omega (arith, after) in
    let upto : 1 + place_of b ≤ 1 + place_of v = last.last (At b) one.other inside in
    let below : place_of v < place_of b = before place_of order in
    omega (arith, upto, below)

below_others : (a b : ℕ) → a ≢ b → (b < a → ⊥) → (a ≡ b) ⊎ ((a < b) ⊎ (b < a)) → a < b
below_others a b apart after (inl same) = absurd (apart same)
below_others a b apart after (inr (inl below)) = below
below_others a b apart after (inr (inr above)) = absurd (after above)

-- the read takes the byte from before the write, so it comes first
pub forced_by_from_read : (x : LoggedRun) (a b : EventKey) (w : EventId) → a ≢ b → IsSome ((execution x).event_of a) → ReadsOneOf x a w b → ComesBefore x w b → IsForced x a b
forced_by_from_read x a b w apart there one before = λ place_of order.
    let address = one.event.address + one.byte in
    let differ : place_of a ≢ place_of b = λ same. apart (order.apart a b there (writes_is_there x b address one.other) same) in
    below_others (place_of a) (place_of b) differ (not_read_after x a b w one before place_of order) (cases_order (place_of a) (place_of b))

pub edge_of_read : (x : LoggedRun) (a b : EventKey) (k : ℕ) → IsSome ((execution x).event_of b) → ReadsFrom (execution x) b k (At a)
    → IsCycleEdge x record { from = a; to = b; kind = ReadsByte }
edge_of_read x a b k there reads =
    let found = some_value ((execution x).event_of b) there in
    record { states = (k, reads); forced = forced_by_read x a b found.0 k found.1 reads }

pub edge_of_coherence : (x : LoggedRun) (a b r : EventKey) → a ≢ b → ReadsOneOf x r (At b) a → IsForced x a r → IsCycleEdge x record { from = a; to = b; kind = Coherence }
edge_of_coherence x a b r apart one before = record {
  states = (one.event.address + one.byte, one.other, one.written);
  forced = forced_by_coherence x a b r apart one before;
}

pub edge_of_from_read : (x : LoggedRun) (a b : EventKey) (w : EventId) → a ≢ b → ReadsOneOf x a w b → ComesBefore x w b → IsCycleEdge x record { from = a; to = b; kind = FromRead }
edge_of_from_read x a b w apart one before = record {
  states = (w, one);
  forced = forced_by_from_read x a b w apart (subst IsSome (sym one.is_event) refl) one before;
}

-- ---- ways

pub joined_ways : (x : LoggedRun) (one other : Way) (steps : ℕ) → IsWay x one → IsWay x other → one.to ≡ other.first.from → IsWay x record { first = one.first; to = other.to; steps = steps }
joined_ways x one other steps first second here = record {
  first = first.first;
  forced = forced_along x one.first.from one.to other.to first.forced (subst (λ from. IsForced x from other.to) (sym here) second.forced);
}

pub forced_by_way : (x : LoggedRun) (way : Way) (a b : EventKey) → IsWay x way → way.first.from ≡ a → way.to ≡ b → IsForced x a b
forced_by_way x way a b right from to = subst (IsForced x a) to (subst (λ from. IsForced x from way.to) from right.forced)

pub forced_by_found : (x : LoggedRun) (a b : EventKey) (found : Option Way) → IfSome found (IsWay x) → IfSome found (λ way. way.first.from ≡ a) → IfSome found (λ way. way.to ≡ b)
    → IsSome found → IsForced x a b
forced_by_found x a b None right from to there = absurd (cc)
forced_by_found x a b (Some way) right from to there = forced_by_way x way a b right from to

-- ---- cycles

pub leads_more : (a b : EventKey) (edges : List CycleEdge) (edge : CycleEdge) → Leads a edges b → edge.from ≡ b → Leads a (edges ++ edge ∷ []) edge.to
leads_more a b [] edge leads here = (here ∙ sym leads, refl)
leads_more a b (first ∷ edges) edge leads here = (leads.0, leads_more first.to b edges edge leads.1 here)

-- each edge leads at least one place forward
forward : (x : LoggedRun) (place_of : EventKey → ℕ) → IsSequential (placed x place_of) → (a b : EventKey) (edges : List CycleEdge) → Leads a edges b → AllByRecursion (IsCycleEdge x) edges
    → place_of a + length edges ≤ place_of b
forward x place_of order a b [] leads right =
    let same : place_of a ≡ place_of b = ap place_of leads in
    omega (arith, same)
forward x place_of order a b (edge ∷ edges) leads right =
    let here : place_of edge.from ≡ place_of a = ap place_of leads.0 in
    let step : place_of edge.from < place_of edge.to = right.0.forced place_of order in
    let rest : place_of edge.to + length edges ≤ place_of b = forward x place_of order edge.to b edges leads.1 right.1 in
    omega (arith, here, step, rest)

pub no_order_with_cycle : (x : LoggedRun) (edges : List CycleEdge) → IsCycle x edges → IsSequentialInNoOrder x
no_order_with_cycle x edges cycle = λ place_of order.
    let a = cycle.closed.0 in
    let back : place_of a + length edges ≤ place_of a = forward x place_of order a a edges cycle.closed.1 (recursion_from_All (IsCycleEdge x) edges cycle.right) in
    let some = cycle.some in
    omega (arith, back, some)

pub no_order_found : (x : LoggedRun) (found : Option (List CycleEdge)) → IfSome found (IsCycle x) → OnSome found (IsSequentialInNoOrder x)
no_order_found x None cycle = tt
no_order_found x (Some edges) cycle = no_order_with_cycle x edges cycle
