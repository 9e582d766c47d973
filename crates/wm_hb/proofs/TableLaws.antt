-- What the rows of a table state.
use Rattle.std.proofs.Common.{◌≡◌, ℕ, zero, suc, ◌+◌, ◌<◌, ◌≤◌, List, [], ◌∷◌, ◌++◌, length, get_or, slice_get, Option, None, Some, IfSome, false, true, refl, sym, ap, ◌∙◌, subst, arith, ◌⊎◌, ⊎_elim, inl, inr}
use Rattle.std.proofs.lemmas.Bool.{cases_lt}
use Rattle.std.proofs.lemmas.Grind.{common_steps}
use Rattle.std.proofs.lemmas.Option.{slice_get-get_or, gets, same_Some}
use Rattle.wm_event.specs.declared.event.EventKey.{EventKey}
use Rattle.wm_event.specs.declared.event.EventId.{EventId}
use Rattle.wm_event.specs.declared.event.EventId.TheVariants.{Init, At}
use Rattle.wm_event.specs.Event.{same_key}
use Rattle.wm_event.specs.Execution.{place}
use Rattle.wm_event.specs.HappensBefore.{SequencedBefore, SynchronizesWith}
use Rattle.wm_event.specs.LoggedRun.{LoggedRun, execution}
use Rattle.wm_event.specs.Rules.{KeepsOrder}
use Rattle.wm_event.specs.Shape.{ListsEachOnce}
use Rattle.wm_hb.specs.Chain.{IsEdge, Leads}
use Rattle.wm_hb.specs.Table.{BoundsChains, BoundsThrough, IsBestOfThread, IsHop, IsReach, IsReachedAt, IsRow, IsSmall, IsTable, IsWithin, StandsAt, hop_links, links_of}
use Rattle.wm_hb.specs.declared.chain.Link.{Link}
use Rattle.wm_hb.specs.declared.chain.LinkKind.{LinkKind}
use Rattle.wm_hb.specs.declared.chain.LinkKind.TheVariants.{Initial, Sequenced, Synchronizes}
use Rattle.wm_hb.specs.declared.table.Hop.{Hop}
use Rattle.wm_hb.specs.declared.table.Reach.{Reach}
use Rattle.wm_hb.specs.declared.table.Reach.TheVariants.{Never, First, By}
use Rattle.wm_hb.specs.declared.table.Row.{Row}
use Rattle.wm_hb.proofs.OrderLaws.{place_is}

-- an event that is sequenced before another is at a lower place
pub sequenced_below : (x : LoggedRun) → ListsEachOnce x.log x.witness.order → KeepsOrder (execution x) → (m n : ℕ) (p b : EventKey) → StandsAt x m p → StandsAt x n b → SequencedBefore (execution x) p b → m < n
sequenced_below x order agrees m n p b at_p at_b s =
    let below = agrees (At p) (At b) ([], inl s) in
    let e = place_is x order m p at_p in
    let f = place_is x order n b at_b in
    omega (arith, below, e, f)

-- a writer is at a lower place than the read that it synchronizes with
pub synchronized_below : (x : LoggedRun) → ListsEachOnce x.log x.witness.order → KeepsOrder (execution x) → (m n : ℕ) (p b : EventKey) → StandsAt x m p → StandsAt x n b → SynchronizesWith (execution x) p b → m < n
synchronized_below x order agrees m n p b at_p at_b s =
    let below = agrees (At p) (At b) ([], inr s) in
    let e = place_is x order m p at_p in
    let f = place_is x order n b at_b in
    omega (arith, below, e, f)

-- the event at a place is reached by this number of links
pub reached_at : (table : List Row) (n : ℕ) (blank : Row) (reach : Reach) → n < length table → (get_or table n blank).reach ≡ reach → (d : ℕ) → links_of reach ≡ Some d → IsReachedAt table n d
reached_at table n blank reach inside e d is = (get_or table n blank, slice_get-get_or table n blank inside, ap links_of e ∙ is)

-- no chain to the event at a place has fewer links than its row states
pub bounds_at : (x : LoggedRun) (table : List Row) (a p : EventKey) (n : ℕ) (blank : Row) (reach : Reach) → n < length table → (get_or table n blank).reach ≡ reach → IsTable x a table → StandsAt x n p → BoundsChains x a p (links_of reach)
bounds_at x table a p n blank reach inside e is at =
    subst (λ r. BoundsChains x a p (links_of r)) e (is n p (get_or table n blank) at (slice_get-get_or table n blank inside)).least

pub within_more : (o : Option ℕ) (m n : ℕ) → m ≤ n → IsWithin o m → IsWithin o n
within_more None m n l h = absurd h
within_more (Some d) m n l h = omega arith

-- the last link to an event as the last link to a later event of its thread
later_hop : (x : LoggedRun) (table : List Row) (q b : EventKey) (hop : Hop) → SequencedBefore (execution x) q b → IsHop x table q hop × (hop.kind ≡ Sequenced) → IsHop x table b hop × (hop.kind ≡ Sequenced)
later_hop x table q b hop next h =
    let before : SequencedBefore (execution x) h.0.from q = subst (λ k. IsEdge (execution x) k (At h.0.from) q) h.1 h.0.edge in
    let low = before.earlier in
    let high = next.earlier in
    let after : SequencedBefore (execution x) h.0.from b = record {
      first = before.first;
      second = next.second;
      same_thread = before.same_thread ∙ next.same_thread;
      earlier = omega (arith, low, high);
    } in
    let edge : IsEdge (execution x) hop.kind (At h.0.from) b = subst (λ k. IsEdge (execution x) k (At h.0.from) b) (sym h.1) after in
    (record { from = h.0.from; fewer = h.0.fewer; stands = h.0.stands; edge = edge; reached = h.0.reached; links = h.0.links }, h.1)

later_hops : (x : LoggedRun) (table : List Row) (q b : EventKey) (e : Option Hop) → SequencedBefore (execution x) q b → IfSome e (λ hop. IsHop x table q hop × (hop.kind ≡ Sequenced)) → IfSome e (λ hop. IsHop x table b hop × (hop.kind ≡ Sequenced))
later_hops x table q b None next h = h
later_hops x table q b (Some hop) next h = later_hop x table q b hop next h

both : (x : LoggedRun) (table : List Row) (b : EventKey) (h : Option Hop) → IfSome h (λ hop. IsHop x table b hop) → IfSome h (λ hop. hop.kind ≡ Sequenced) → IfSome h (λ hop. IsHop x table b hop × (hop.kind ≡ Sequenced))
both x table b None l r = l
both x table b (Some hop) l r = (l, r)

-- the better one of the best last link to the event before, and the one from that event
pub best_of_thread : (x : LoggedRun) (table : List Row) (a q b : EventKey) (e h r : Option Hop) → SequencedBefore (execution x) q b → q.number + 1 ≡ b.number → IsBestOfThread x table a q e
    → IfSome h (λ hop. IsHop x table b hop) → IfSome h (λ hop. hop.kind ≡ Sequenced) → BoundsThrough x a q (hop_links h)
    → ((r ≡ e) ⊎ (r ≡ h)) → ((n : ℕ) → IsWithin (hop_links e) n ⊎ IsWithin (hop_links h) n → IsWithin (hop_links r) n) → IsBestOfThread x table a b r
best_of_thread x table a q b e h r next number before is kind through one least = record {
  hop = ⊎_elim
      (λ (s : r ≡ e). subst (λ o. IfSome o (λ hop. IsHop x table b hop × (hop.kind ≡ Sequenced))) (sym s) (later_hops x table q b e next before.hop))
      (λ (s : r ≡ h). subst (λ o. IfSome o (λ hop. IsHop x table b hop × (hop.kind ≡ Sequenced))) (sym s) (both x table b h is kind))
      one;
  least = λ c s links leads. ⊎_elim
      (λ (l : c.number < q.number). least (length links + 1) (inl (before.least c
      (record { first = s.first; second = next.first; same_thread = s.same_thread ∙ sym next.same_thread; earlier = l }) links leads)))
      (λ (l : q.number ≤ c.number).
      let below = s.earlier in
      let t : c.thread ≡ q.thread = s.same_thread ∙ sym next.same_thread in
      let u : c.number ≡ q.number = omega (arith, l, below, number) in
      let same : c ≡ q = λ i. record { thread = t i; number = u i } in
      least (length links + 1) (inr (through links (subst (λ k. Leads (execution x) (At a) links (At k)) same leads))))
      (cases_lt c.number q.number);
}

-- a chain with a link by its last link
pub record IsLast (x : LoggedRun) (a b : EventKey) (n : ℕ) : Type 0 where
  pub from : EventKey
  pub kind : LinkKind
  pub before : List Link
  pub leads : Leads (execution x) (At a) before (At from)
  pub edge : IsEdge (execution x) kind (At from) b
  pub size : n ≡ length before + 1

key_in : EventKey → EventId → EventKey
key_in d Init = d
key_in d (At key) = key

pub same_At : (p q : EventKey) → At p ≡ At q → p ≡ q
unfolding key_in
same_At p q e = ap (key_in p) e

pub last_of : (x : LoggedRun) (a : EventKey) (l : Link) (ls : List Link) (b : EventKey) → Leads (execution x) (At a) (l ∷ ls) (At b) → IsLast x a b (length (l ∷ ls))
last_of x a l [] b h = record {
  from = a;
  kind = l.kind;
  before = [];
  leads = refl;
  edge = subst (λ k. IsEdge (execution x) l.kind (At a) k) (same_At l.event b h.1) h.0;
  size = refl;
}
last_of x a l (m ∷ ls) b h =
    let r = last_of x l.event m ls b h.1 in
    let s = r.size in
    record {
      from = r.from;
      kind = r.kind;
      before = l ∷ r.before;
      leads = (h.0, r.leads);
      edge = r.edge;
      size = (let t : length (m ∷ ls) ≡ length r.before + 1 = s in omega (arith, t));
    }

-- what bounds the chains through each event before b bounds those to b
pub bounds_chains : (x : LoggedRun) (a b : EventKey) (o : Option ℕ) → (a ≡ b → ⊥) → ((c : EventKey) (kind : LinkKind) → IsEdge (execution x) kind (At c) b → BoundsThrough x a c o) → BoundsChains x a b o
bounds_chains x a b o other through [] h = absurd (other (same_At a b h))
bounds_chains x a b o other through (l ∷ ls) h =
    let r = last_of x a l ls b h in
    subst (IsWithin o) (sym r.size) (through r.from r.kind r.edge r.before r.leads)

pub through_edges : (x : LoggedRun) (a b : EventKey) (o : Option ℕ) → ((c : EventKey) → SequencedBefore (execution x) c b → BoundsThrough x a c o) → ((c : EventKey) → SynchronizesWith (execution x) c b → BoundsThrough x a c o)
    → (c : EventKey) (kind : LinkKind) → IsEdge (execution x) kind (At c) b → BoundsThrough x a c o
through_edges x a b o sequenced synchronized c Initial edge = absurd edge
through_edges x a b o sequenced synchronized c Sequenced edge = sequenced c edge
through_edges x a b o sequenced synchronized c Synchronizes edge = synchronized c edge

-- one row after the other
pub get_more : (table : List Row) (row : Row) (n : ℕ) (r : Row) → slice_get (table ++ row ∷ []) n ≡ Some r → (slice_get table n ≡ Some r) ⊎ ((n ≡ length table) × (row ≡ r))
get_more [] row zero r h = inr (refl, same_Some row r h)
get_more [] row (suc n) r h = absurd (grind (arith, common_steps, gets))
get_more (t ∷ ts) row zero r h = inl h
get_more (t ∷ ts) row (suc n) r h = ⊎_elim (λ (g : slice_get ts n ≡ Some r). inl g) (λ (g : (n ≡ length ts) × (row ≡ r)). inr (ap suc g.0, g.1)) (get_more ts row n r h)

get_still : (table : List Row) (row : Row) (n : ℕ) (r : Row) → slice_get table n ≡ Some r → slice_get (table ++ row ∷ []) n ≡ Some r
get_still [] row n r h = absurd (grind (arith, common_steps, gets))
get_still (t ∷ ts) row zero r h = h
get_still (t ∷ ts) row (suc n) r h = get_still ts row n r h

get_inside : (table : List Row) (n : ℕ) (r : Row) → slice_get table n ≡ Some r → n < length table
get_inside table n r h = grind (arith, common_steps, gets)

module _ (x : LoggedRun) (table : List Row) (row : Row) where
  hop_still : (b : EventKey) (hop : Hop) → IsHop x table b hop → IsHop x (table ++ row ∷ []) b hop
  hop_still b hop h = record {
    from = h.from;
    fewer = h.fewer;
    stands = h.stands;
    edge = h.edge;
    reached = (h.reached.0, get_still table row hop.previous h.reached.0 h.reached.1, h.reached.2);
    links = h.links;
  }

  earlier_still : (b : EventKey) (e : Option Hop) → IfSome e (λ hop. IsHop x table b hop × (hop.kind ≡ Sequenced)) → IfSome e (λ hop. IsHop x (table ++ row ∷ []) b hop × (hop.kind ≡ Sequenced))
  earlier_still b None h = h
  earlier_still b (Some hop) h = (hop_still b hop h.0, h.1)

  reach_still : (a b : EventKey) (r : Reach) → IsReach x table a b r → IsReach x (table ++ row ∷ []) a b r
  reach_still a b Never h = h
  reach_still a b First h = h
  reach_still a b (By hop) h = hop_still b hop h

  row_still : (a b : EventKey) (r : Row) → IsRow x table a b r → IsRow x (table ++ row ∷ []) a b r
  row_still a b r h = record {
    earlier = record { hop = earlier_still b r.earlier h.earlier.hop; least = h.earlier.least };
    reach = reach_still a b r.reach h.reach;
    least = h.least;
  }

  pub table_more : (a key : EventKey) → IsTable x a table → StandsAt x (length table) key → IsRow x table a key row → IsTable x a (table ++ row ∷ [])
  table_more a key is stands last n b r at get = ⊎_elim
      (λ (g : slice_get table n ≡ Some r). row_still a b r (is n b r at g))
      (λ (g : (n ≡ length table) × (row ≡ r)).
      let same : key ≡ b = same_Some key b (sym stands ∙ subst (λ m. StandsAt x m b) g.0 at) in
      let here : IsRow x (table ++ row ∷ []) a key row = row_still a key row last in
      subst (λ k. IsRow x (table ++ row ∷ []) a k r) same (subst (λ r. IsRow x (table ++ row ∷ []) a key r) g.1 here))
      (get_more table row n r get)

  small_last : (a b : EventKey) → IsSmall table → (r : Reach) → IsReach x table a b r → (d : ℕ) → links_of r ≡ Some d → d ≤ length table
  small_last a b small Never h d e = absurd (cc)
  small_last a b small First h d e = let z : 0 ≡ d = same_Some 0 d e in omega (arith, z)
  small_last a b small (By hop) h d e =
      let z : hop.links ≡ d = same_Some hop.links d e in
      let one = h.links in
      let few : h.fewer ≤ hop.previous = small hop.previous h.fewer h.reached in
      let inside : hop.previous < length table = get_inside table hop.previous h.reached.0 h.reached.1 in
      omega (arith, z, one, few, inside)

  pub small_more : (a b : EventKey) → IsSmall table → IsRow x table a b row → IsSmall (table ++ row ∷ [])
  small_more a b small last n d h = ⊎_elim
      (λ (g : slice_get table n ≡ Some h.0). small n d (h.0, g, h.2))
      (λ (g : (n ≡ length table) × (row ≡ h.0)).
      let e : links_of row.reach ≡ Some d = ap (λ r. links_of r.reach) g.1 ∙ h.2 in
      let l : d ≤ length table = small_last a b small row.reach last.reach d e in
      let same = g.0 in
      omega (arith, l, same))
      (get_more table row n h.0 h.1)

same_key_self : (a : EventKey) → same_key a a ≡ true
same_key_self a = grind (arith, common_steps)

pub unequal : (a b : EventKey) → false ≡ same_key b a → a ≡ b → ⊥
unequal a b h e =
    let one : false ≡ same_key b b = subst (λ k. false ≡ same_key b k) e h in
    let two : same_key b b ≡ true = same_key_self b in
    let three : false ≡ true = one ∙ two in
    cc

pub previous_inside : (table : List Row) (n d : ℕ) → IsReachedAt table n d → n < length table
previous_inside table n d h = get_inside table n h.0 h.1
