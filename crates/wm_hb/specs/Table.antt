-- How each event is reached from a first one, by its place in the order.
use Rattle.std.specs.Prelude.{◌≡◌, ℕ, ◌+◌, ◌≤◌, List, MatchOption, Option, None, Some, slice_get, length, IsSomeAnd, IfSome, option_and_then, unwrap_or}
use Rattle.wm_event.specs.declared.event.EventKey.{EventKey}
use Rattle.wm_event.specs.declared.event.EventId.{EventId}
use Rattle.wm_event.specs.declared.event.EventId.TheVariants.{At}
use Rattle.wm_event.specs.HappensBefore.{SequencedBefore, SynchronizesWith}
use Rattle.wm_event.specs.LoggedRun.{LoggedRun, execution}
use Rattle.wm_hb.specs.Chain.{IsEdge, Leads}
use Rattle.wm_hb.specs.declared.chain.Link.{Link}
use Rattle.wm_hb.specs.declared.chain.LinkKind.{LinkKind}
use Rattle.wm_hb.specs.declared.chain.LinkKind.TheVariants.{Sequenced}
use Rattle.wm_hb.specs.declared.table.Reach.{Reach}
use Rattle.wm_hb.specs.declared.table.Reach.TheVariants.{Never, First, By}
use Rattle.wm_hb.specs.declared.table.Hop.{Hop}
use Rattle.wm_hb.specs.declared.table.Row.{Row}

-- the event at this place of the order
abbrev pub StandsAt : LoggedRun → ℕ → EventKey → Type 0
StandsAt x n key = slice_get x.witness.order n ≡ Some key

-- by how many links the event is reached
abbrev pub links_of : Reach → Option ℕ
links_of Never = None
links_of First = Some 0
links_of (By hop) = Some hop.links

-- by a number of links that is at most n
abbrev pub IsWithin : Option ℕ → ℕ → Type 0
IsWithin o n = IsSomeAnd o (λ d. d ≤ n)

abbrev pub hop_links : Option Hop → Option ℕ
hop_links None = None
hop_links (Some hop) = Some hop.links

-- every chain from a to b has at least this number of links
abbrev pub BoundsChains : LoggedRun → EventKey → EventKey → Option ℕ → Type 0
BoundsChains x a b o = (links : List Link) → Leads (execution x) (At a) links (At b) → IsWithin o (length links)

-- every chain from a to c, with one more link, has at least this number of links
abbrev pub BoundsThrough : LoggedRun → EventKey → EventKey → Option ℕ → Type 0
BoundsThrough x a c o = (links : List Link) → Leads (execution x) (At a) links (At c) → IsWithin o (length links + 1)

-- the row at this place states that its event is reached by this number of links
abbrev pub IsReachedAt : List Row → ℕ → ℕ → Type 0
IsReachedAt table place d = (row : Row) × (slice_get table place ≡ Some row) × (links_of row.reach ≡ Some d)

-- no event is reached by more links than its place
abbrev pub IsSmall : List Row → Type 0
IsSmall table = (n d : ℕ) → IsReachedAt table n d → d ≤ n

-- the last link to b comes from the event at a place of the table that is reached by one link fewer
pub record IsHop (x : LoggedRun) (table : List Row) (b : EventKey) (hop : Hop) : Type 0 where
  pub from : EventKey
  pub fewer : ℕ
  pub stands : StandsAt x hop.previous from
  pub edge : IsEdge (execution x) hop.kind (At from) b
  pub reached : IsReachedAt table hop.previous fewer
  pub links : hop.links ≡ fewer + 1

-- a is b, or b is reached by its last link
abbrev pub IsReach : LoggedRun → List Row → EventKey → EventKey → Reach → Type 0
IsReach x table a b Never = Unit {0}
IsReach x table a b First = a ≡ b
IsReach x table a b (By hop) = IsHop x table b hop

-- the best last link from earlier events of b's thread
pub record IsBestOfThread (x : LoggedRun) (table : List Row) (a b : EventKey) (earlier : Option Hop) : Type 0 where
  pub hop : IfSome earlier (λ hop. IsHop x table b hop × (hop.kind ≡ Sequenced))
  pub least : (c : EventKey) → SequencedBefore (execution x) c b → BoundsThrough x a c (hop_links earlier)

-- what a row states about its event b: how it is reached by the fewest links
pub record IsRow (x : LoggedRun) (table : List Row) (a b : EventKey) (row : Row) : Type 0 where
  pub earlier : IsBestOfThread x table a b row.earlier
  pub reach : IsReach x table a b row.reach
  pub least : BoundsChains x a b (links_of row.reach)

-- each row states how the event of its place is reached
abbrev pub IsTable : LoggedRun → EventKey → List Row → Type 0
IsTable x a table = (n : ℕ) (b : EventKey) (row : Row) → StandsAt x n b → slice_get table n ≡ Some row → IsRow x table a b row

-- by how many links the event at a place is reached
abbrev pub links_at : List Row → ℕ → ℕ
links_at table n = unwrap_or (option_and_then (λ row. links_of row.reach) (slice_get table n)) 0

-- the last link of a kind from the event at a place
abbrev pub IsHopFrom : List Row → LinkKind → ℕ → Option Hop → Type 0
IsHopFrom table kind previous o = (x : LoggedRun) (p b : EventKey) → StandsAt x previous p → IsEdge (execution x) kind (At p) b → IfSome o (λ hop. IsHop x table b hop)

-- no chain through the event at a place has fewer links
abbrev pub BoundsThroughPlace : List Row → ℕ → Option Hop → Type 0
BoundsThroughPlace table previous o = (x : LoggedRun) (a p : EventKey) → IsTable x a table → StandsAt x previous p → BoundsThrough x a p (hop_links o)

-- no chain through the writer, if it synchronizes with the reader, has fewer links
abbrev pub BoundsThroughWriter : LoggedRun → List Row → EventId → EventKey → Option Hop → Type 0
BoundsThroughWriter x table writer reader o =
    (a p : EventKey) → IsTable x a table → writer ≡ At p → SynchronizesWith (execution x) p reader → BoundsThrough x a p (hop_links o)

-- from the event that the table begins with, the links lead to the event at a place
abbrev pub LeadsTo : LoggedRun → List Row → ℕ → List Link → Type 0
LeadsTo x table to links = (a b : EventKey) → IsTable x a table → StandsAt x to b → Leads (execution x) (At a) links (At b)

-- no chain through a writer that synchronizes with the reader has fewer links
abbrev pub BoundsThroughWriters : LoggedRun → List Row → EventKey → Option Hop → Type 0
BoundsThroughWriters x table reader o =
    (a p : EventKey) → IsTable x a table → SynchronizesWith (execution x) p reader → BoundsThrough x a p (hop_links o)

-- the place of the event before this one in its thread; None if no event is sequenced before it
abbrev pub FindsPrevious : LoggedRun → EventKey → Option ℕ → Type 0
FindsPrevious x r result = MatchOption result
    ((p : EventKey) → SequencedBefore (execution x) p r → ⊥)
    (λ m. (p : EventKey) × StandsAt x m p × SequencedBefore (execution x) p r × (p.number + 1 ≡ r.number))
