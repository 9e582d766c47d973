-- The cycle of a run that is not sequentially consistent.
use Rattle.std.specs.Prelude.{◌≡◌, ℕ, ◌+◌, ◌<◌, List, [], ◌∷◌, Option, Some, All, IfSome, length}
use Rattle.wm_event.specs.declared.event.Event.{Event}
use Rattle.wm_event.specs.declared.event.EventId.{EventId}
use Rattle.wm_event.specs.declared.event.EventId.TheVariants.{Init, At}
use Rattle.wm_event.specs.declared.event.EventKey.{EventKey}
use Rattle.wm_event.specs.Execution.{ReadsFrom}
use Rattle.wm_event.specs.HappensBefore.{SequencedBefore}
use Rattle.wm_event.specs.LoggedRun.{LoggedRun, execution}
use Rattle.wm_event.specs.Rules.{Writes}
use Rattle.wm_graph.specs.Sequential.{IsForced}
use Rattle.wm_graph.specs.declared.cycle_edge.CycleEdge.{CycleEdge}
use Rattle.wm_graph.specs.declared.cycle_edge.CycleKind.{CycleKind}
use Rattle.wm_graph.specs.declared.cycle_edge.CycleKind.TheVariants.{Sequenced, ReadsFrom as ReadsByte, Coherence, FromRead}
use Rattle.wm_graph.specs.declared.forced.Stage.{Stage}
use Rattle.wm_graph.specs.declared.forced.Stage.TheVariants as stage
use Rattle.wm_graph.specs.declared.ways.Way.{Way}
use Rattle.wm_graph.specs.declared.ways.Ways.{Ways}

-- a is the event before b in its thread
abbrev pub IsNextTo : LoggedRun → EventKey → EventKey → Type 0
IsNextTo x a b = SequencedBefore (execution x) a b × (a.number + 1 ≡ b.number)

-- both write a byte
abbrev pub WriteOneByte : LoggedRun → EventKey → EventKey → Type 0
WriteOneByte x a b = (address : ℕ) × Writes (execution x) (At a) address × Writes (execution x) (At b) address

-- r reads a byte from w, and both w and v write the byte
pub record ReadsOneOf (x : LoggedRun) (r : EventKey) (w : EventId) (v : EventKey) : Type 0 where
  pub event : Event
  pub is_event : (execution x).event_of r ≡ Some event
  pub byte : ℕ
  pub reads : ReadsFrom (execution x) r byte w
  pub written : Writes (execution x) w (event.address + byte)
  pub other : Writes (execution x) (At v) (event.address + byte)

-- what an edge of this kind states, apart from the order
abbrev pub Relates : LoggedRun → CycleKind → EventKey → EventKey → Type 0
Relates x Sequenced a b = IsNextTo x a b
Relates x ReadsByte a b = (k : ℕ) × ReadsFrom (execution x) b k (At a)
Relates x Coherence a b = WriteOneByte x a b
Relates x FromRead a b = (w : EventId) × ReadsOneOf x a w b

-- the edge is what its kind states, and leads forward in each order in which the run is sequential
pub record IsCycleEdge (x : LoggedRun) (edge : CycleEdge) : Type 0 where
  pub states : Relates x edge.kind edge.from edge.to
  pub forced : IsForced x edge.from edge.to

-- the edges lead from a to b, one after the other
abbrev pub Leads : EventKey → List CycleEdge → EventKey → Type 0
Leads a [] b = a ≡ b
Leads a (edge ∷ edges) b = (edge.from ≡ a) × Leads edge.to edges b

-- edges that lead from an event back to it
pub record IsCycle (x : LoggedRun) (edges : List CycleEdge) : Type 0 where
  pub right : All (IsCycleEdge x) edges
  pub closed : (a : EventKey) × Leads a edges a
  pub some : 0 < length edges

-- ---- how it is found

-- the way begins with this edge, and its end comes after its start in each order in which the run is sequential
pub record IsWay (x : LoggedRun) (way : Way) : Type 0 where
  pub first : IsCycleEdge x way.first
  pub forced : IsForced x way.first.from way.to

abbrev pub AreWays : LoggedRun → Ways → Type 0
AreWays x ways = All (λ (entry : Option Way). IfSome entry (IsWay x)) ways.entries

-- the writer comes before the event in each order in which the run is sequential; Init comes before all
abbrev pub ComesBefore : LoggedRun → EventId → EventKey → Type 0
ComesBefore x Init b = Unit {0}
ComesBefore x (At a) b = IsForced x a b

-- the kind of the edges that are looked for at a time
abbrev pub kind_of : Stage → CycleKind
kind_of stage.Sequenced = Sequenced
kind_of stage.Synchronizes = ReadsByte
kind_of stage.ReadsFrom = ReadsByte
kind_of stage.Coherence = Coherence
kind_of stage.FromRead = FromRead
