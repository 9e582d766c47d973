-- The edges of a picture, by what they state of the run.
use Rattle.std.specs.Prelude.{◌≡◌, ◌↔◌, ℕ, ◌+◌, ◌<◌, ◌≤◌, List, Some, All, Contains, IsTrue, length, slice_get}
use Rattle.wm_event.specs.declared.event.Event.{Event}
use Rattle.wm_event.specs.declared.event.EventId.{EventId}
use Rattle.wm_event.specs.declared.event.EventId.TheVariants.{Init, At}
use Rattle.wm_event.specs.declared.event.EventKey.{EventKey}
use Rattle.wm_event.specs.declared.log.ThreadLog.{ThreadLog}
use Rattle.wm_event.specs.Event.{key_of}
use Rattle.wm_event.specs.Execution.{ReadsFrom}
use Rattle.wm_event.specs.HappensBefore.{SynchronizesWith}
use Rattle.wm_event.specs.LoggedRun.{LoggedRun, execution}
use Rattle.wm_event.specs.Rules.{Writes}
use Rattle.wm_event.specs.Shape.{IsListedAt}
use Rattle.wm_event.specs.Witness.{writers_in}
use Rattle.wm_graph.specs.declared.edges.Edge.{Edge}
use Rattle.wm_graph.specs.declared.edges.EdgeKind.{EdgeKind}
use Rattle.wm_graph.specs.declared.edges.EdgeKind.TheVariants.{Sequenced, ReadsFrom as ReadsBytes, Order, Coherence, FromRead}
use Rattle.wm_graph.specs.declared.edges.ReadsFrom.{ReadsFrom as Bytes}
use Rattle.wm_graph.specs.declared.shown.Shown.{Shown}
use Rattle.wm_graph.specs.Shown.{IsShown}

-- b is the next event of a's thread
abbrev pub IsNext : EventId → EventKey → Type 0
IsNext Init b = ⊥
IsNext (At a) b = (a.thread ≡ b.thread) × (a.number + 1 ≡ b.number)

-- the edge from an event to the next one of its thread
abbrev pub sequenced : EventKey → EventKey → Edge
sequenced a b = record { from = At a; to = b; kind = Sequenced }

-- a synchronizes with b
abbrev pub SyncsWith : LoggedRun → EventId → EventKey → Type 0
SyncsWith x Init b = ⊥
SyncsWith x (At a) b = SynchronizesWith (execution x) a b

-- the order lists a before b; Init is before each event that it lists
abbrev pub Precedes : LoggedRun → EventId → EventKey → Type 0
Precedes x Init b = (j : ℕ) × IsListedAt x.witness.order j (At b)
Precedes x (At a) b = (i : ℕ) × (j : ℕ) × IsListedAt x.witness.order i (At a) × IsListedAt x.witness.order j (At b) × (i < j)

-- b writes a byte that a wrote, later in the order
pub record Overwrites (x : LoggedRun) (a : EventId) (b : EventKey) : Type 0 where
  pub address : ℕ
  pub first : Writes (execution x) a address
  pub second : Writes (execution x) (At b) address
  pub order : Precedes x a b

-- a reads a byte from a write that b overwrites
abbrev pub ReadsBefore : LoggedRun → EventId → EventKey → Type 0
ReadsBefore x Init b = ⊥
ReadsBefore x (At a) b = (k : ℕ) × (w : EventId) × ReadsFrom (execution x) a k w × Overwrites x w b

-- b reads these bytes from a, at least one
pub record ReadsFromBy (x : LoggedRun) (a : EventId) (b : EventKey) (bytes : Bytes) : Type 0 where
  pub some : bytes.first ≤ bytes.last
  pub from_writer : (k : ℕ) → bytes.first ≤ k → k ≤ bytes.last → slice_get (writers_in x.witness b) k ≡ Some a
  pub whole : IsTrue bytes.is_whole ↔ ((bytes.first ≡ 0) × (bytes.last + 1 ≡ length (writers_in x.witness b)))
  pub synchronizes : IsTrue bytes.synchronizes ↔ SyncsWith x a b

-- an edge of this kind from a to b is right
abbrev pub States : LoggedRun → EdgeKind → EventId → EventKey → Type 0
States x Sequenced a b = IsNext a b
States x (ReadsBytes bytes) a b = ReadsFromBy x a b bytes
States x Order a b = Precedes x a b
States x Coherence a b = Overwrites x a b
States x FromRead a b = ReadsBefore x a b

-- an edge is right
abbrev pub IsRight : LoggedRun → Edge → Type 0
IsRight x edge = States x edge.kind edge.from edge.to

-- ---- no edge is missing

-- the edge of the order from a to b
abbrev pub ordered : EventKey → EventKey → Edge
ordered a b = record { from = At a; to = b; kind = Order }

-- if the order lists b before a, contrary to an edge from a to b, these edges include one of the order from b to a
abbrev pub ShowsContrary : LoggedRun → List Edge → EventId → EventKey → Type 0
ShowsContrary x edges Init b = Unit {0}
ShowsContrary x edges (At a) b = Precedes x (At b) a → Contains edges (ordered b a)

-- these edges include one from a to b whose kind has this property, and what the order has to the contrary
pub record HasEdge (x : LoggedRun) (edges : List Edge) (P : EdgeKind → Type 0) (a : EventId) (b : EventKey) : Type 0 where
  pub kind : EdgeKind
  pub has : P kind
  pub is_there : Contains edges record { from = a; to = b; kind = kind }
  pub contrary : ShowsContrary x edges a b

-- the edge is of reads-from, and byte k is one of its bytes
abbrev pub ReadsByte : ℕ → EdgeKind → Type 0
ReadsByte k (ReadsBytes bytes) = (bytes.first ≤ k) × (k ≤ bytes.last)
ReadsByte k _ = ⊥

-- an edge leads to b from the event before it in its thread
abbrev pub HasSequenced : LoggedRun → List Edge → EventKey → Type 0
HasSequenced x edges b = (a : EventKey) → IsNext (At a) b → HasEdge x edges (λ kind. kind ≡ Sequenced) (At a) b

-- an edge leads to b from the writer of each byte that it reads
abbrev pub HasReads : LoggedRun → List Edge → EventKey → Type 0
HasReads x edges b = (k : ℕ) (w : EventId) → ReadsFrom (execution x) b k w → HasEdge x edges (ReadsByte k) w b

-- all edges to an event are included
abbrev pub HasEdgesTo : LoggedRun → List Edge → Event → Type 0
HasEdgesTo x edges event = HasSequenced x edges (key_of event) × HasReads x edges (key_of event)

-- all edges to an event are included, if it is shown
abbrev pub HasShownEdgesTo : LoggedRun → Shown → List Edge → Event → Type 0
HasShownEdgesTo x shown edges event = IsShown shown (key_of event) → HasEdgesTo x edges event

-- all edges to the events of a thread that are shown are included
abbrev pub HasEdgesOf : LoggedRun → Shown → List Edge → ThreadLog → Type 0
HasEdgesOf x shown edges thread = All (HasShownEdgesTo x shown edges) thread.events

-- all edges to all events of the log that are shown are included
abbrev pub AreComplete : LoggedRun → Shown → List Edge → Type 0
AreComplete x shown edges = All (HasEdgesOf x shown edges) x.log

-- these edges are still among those
abbrev pub Keeps : List Edge → List Edge → Type 0
Keeps old new = (edge : Edge) → Contains old edge → Contains new edge
