-- Chains with named links, and chains of happens-before.
use Rattle.std.proofs.Common.{◌≡◌, ℕ, ◌+◌, ◌<◌, ◌≤◌, List, [], ◌∷◌, ◌++◌, length, slice_get, reverse, Option, Some, IsSome, is_some, option_and_then, unwrap_or, false, true, refl, sym, ap, ◌∙◌, subst, arith, ◌⊎◌, ⊎_elim}
use Rattle.std.proofs.lemmas.List.{reverse-append}
use Rattle.std.proofs.lemmas.Option.{same_Some}
use Rattle.wm_event.specs.declared.event.EventKey.{EventKey}
use Rattle.wm_event.specs.declared.event.EventId.{EventId}
use Rattle.wm_event.specs.declared.event.EventId.TheVariants.{Init, At}
use Rattle.wm_event.specs.Execution.{place}
use Rattle.wm_event.specs.HappensBefore.{SequencedBefore, SynchronizesWith, Edge, Chain, HappensBefore}
use Rattle.wm_event.specs.Log.{event_in}
use Rattle.wm_event.specs.LoggedRun.{LoggedRun, execution}
use Rattle.wm_event.specs.Rules.{KeepsOrder}
use Rattle.wm_hb.specs.Chain.{IsEdge, IsShortestChain, Leads}
use Rattle.wm_hb.specs.Table.{IsHop, IsReach, IsReachedAt, IsTable, IsWithin, StandsAt, links_at, links_of}
use Rattle.wm_hb.specs.declared.chain.Link.{Link}
use Rattle.wm_hb.specs.declared.chain.LinkKind.{LinkKind}
use Rattle.wm_hb.specs.declared.chain.LinkKind.TheVariants.{Initial, Sequenced, Synchronizes}
use Rattle.wm_hb.specs.declared.table.Hop.{Hop}
use Rattle.wm_hb.specs.declared.table.Reach.{Reach}
use Rattle.wm_hb.specs.declared.table.Reach.TheVariants.{Never, First, By}
use Rattle.wm_hb.specs.declared.table.Row.{Row}

pub reverse_more : (links : List Link) (link : Link) → reverse (links ++ link ∷ []) ≡ link ∷ reverse links
reverse_more links link = reverse-append links (link ∷ [])

-- an edge by its name
named_edge : (x : LoggedRun) (a b : EventKey) → Edge (execution x) (At a) (At b) → (kind : LinkKind) × IsEdge (execution x) kind (At a) b
named_edge x a b e = ⊎_elim
    (λ (s : SequencedBefore (execution x) a b). (Sequenced, s))
    (λ (s : SynchronizesWith (execution x) a b). (Synchronizes, s))
    e

-- a chain of happens-before with its edges' names
pub named_chain : (x : LoggedRun) (between : List EventId) (a b : EventKey) → Chain (execution x) (At a) between (At b) → (links : List Link) × Leads (execution x) (At a) links (At b) × (length links ≡ length between + 1)
named_chain x [] a b h = let e = named_edge x a b h in (record { kind = e.0; event = b } ∷ [], (e.1, refl), refl)
named_chain x (Init ∷ ids) a b h = absurd h.0
named_chain x (At c ∷ ids) a b h =
    let e = named_edge x a c h.0 in
    let rest = named_chain x ids c b h.1 in
    let size = rest.2 in
    (record { kind = e.0; event = c } ∷ rest.0, (e.1, rest.1), omega (arith, size))

edge_there : (x : LoggedRun) (a : EventId) (b : EventKey) → Edge (execution x) a (At b) → IsSome (event_in x.log b)
edge_there x Init b e = e
edge_there x (At a) b e = ⊎_elim
    (λ (s : SequencedBefore (execution x) a b). s.second)
    (λ (s : SynchronizesWith (execution x) a b). subst (λ o. IsSome o) (sym s.is_reader) refl)
    e

pub chain_there : (x : LoggedRun) (between : List EventId) (a : EventId) (b : EventKey) → Chain (execution x) a between (At b) → IsSome (event_in x.log b)
chain_there x [] a b h = edge_there x a b h
chain_there x (id ∷ ids) a b h = chain_there x ids id b h.1

pub absent : (x : LoggedRun) (a : EventId) (b : EventKey) → false ≡ is_some (event_in x.log b) → HappensBefore (execution x) a (At b) → ⊥
absent x a b none h =
    let there : is_some (event_in x.log b) ≡ true = chain_there x h.0 a b h.1 in
    let clash : false ≡ true = none ∙ there in
    cc

no_edge : (x : LoggedRun) (a : EventId) → Edge (execution x) a Init → ⊥
no_edge x Init e = e
no_edge x (At a) e = e

pub never_init : (x : LoggedRun) (between : List EventId) (a : EventId) → Chain (execution x) a between Init → ⊥
never_init x [] a h = no_edge x a h
never_init x (id ∷ ids) a h = never_init x ids id h.1

-- an event that isn't reached, or is the first event, doesn't come after it
pub unreached : (x : LoggedRun) (a b : EventKey) (table : List Row) (n : ℕ) (row : Row) → KeepsOrder (execution x) → IsTable x a table → StandsAt x n b → slice_get table n ≡ Some row
    → ((row.reach ≡ Never) ⊎ (row.reach ≡ First)) → HappensBefore (execution x) (At a) (At b) → ⊥
unreached x a b table n row agrees is at get never h = ⊎_elim
    (λ (e : row.reach ≡ Never).
    let links = named_chain x h.0 a b h.1 in
    let none : ⊥ = subst (λ r. IsWithin (links_of r) (length links.0)) e ((is n b row at get).least links.0 links.1) in
    none)
    (λ (e : row.reach ≡ First).
    let same : a ≡ b = subst (IsReach x table a b) e (is n b row at get).reach in
    let below : place (execution x) (At a) < place (execution x) (At b) = agrees (At a) (At b) h in
    let level : place (execution x) (At a) ≡ place (execution x) (At b) = ap (λ k. place (execution x) (At k)) same in
    absurd (omega (arith, below, level)))
    never

pub reached_links : (table : List Row) (n d : ℕ) → IsReachedAt table n d → links_at table n ≡ d
reached_links table n d h =
    let first : links_at table n ≡ unwrap_or (links_of h.0.reach) 0 = ap (λ (o : Option Row). unwrap_or (option_and_then (λ row. links_of row.reach) o) 0) h.1 in
    first ∙ ap (λ o. unwrap_or o 0) h.2

-- the last link of the event at a place
pub hop_at : (x : LoggedRun) (a b : EventKey) (table : List Row) (n : ℕ) (row : Row) (hop : Hop) → IsTable x a table → StandsAt x n b → slice_get table n ≡ Some row → row.reach ≡ By hop → IsHop x table b hop
hop_at x a b table n row hop is at get e = subst (IsReach x table a b) e (is n b row at get).reach

-- an event that is reached without a last link is the first one
pub is_first : (r : Reach) (d : ℕ) → ((hop : Hop) → r ≡ By hop → ⊥) → links_of r ≡ Some d → (r ≡ First) × (d ≡ 0)
is_first Never d other e = absurd (cc)
is_first First d other e = (refl, sym (same_Some 0 d e))
is_first (By hop) d other e = absurd (other hop refl)

pub first_at : (x : LoggedRun) (a b : EventKey) (table : List Row) (n : ℕ) (row : Row) → IsTable x a table → StandsAt x n b → slice_get table n ≡ Some row → row.reach ≡ First → a ≡ b
first_at x a b table n row is at get e = subst (IsReach x table a b) e (is n b row at get).reach

-- no chain of happens-before has fewer edges than the row states
pub none_shorter : (x : LoggedRun) (a b : EventKey) (table : List Row) (n : ℕ) (row : Row) (hop : Hop) → IsTable x a table → StandsAt x n b → slice_get table n ≡ Some row → row.reach ≡ By hop
    → (between : List EventId) → Chain (execution x) (At a) between (At b) → hop.links ≤ length between + 1
none_shorter x a b table n row hop is at get e between h =
    let links = named_chain x between a b h in
    let least : hop.links ≤ length links.0 = subst (λ r. IsWithin (links_of r) (length links.0)) e ((is n b row at get).least links.0 links.1) in
    let size = links.2 in
    omega (arith, least, size)

-- the one link from Init
pub initial_chain : (x : LoggedRun) (b : EventKey) → IsSome (event_in x.log b) → IsShortestChain (execution x) Init (record { kind = Initial; event = b } ∷ []) (At b)
initial_chain x b there = record { leads = (there, refl); some = omega arith; shortest = λ between h. omega arith }
