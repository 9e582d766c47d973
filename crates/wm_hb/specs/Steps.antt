-- The events of an execution as the nodes of a graph, by their place in the order.
use Rattle.std.specs.Prelude.{◌≡◌, ℕ, ◌+◌, ◌<◌, Bool, IsTrue, List, MatchOption, Option, length, map, Some, slice_get, ◌⊎◌, ◌↔◌}
use Rattle.wm_event.specs.declared.event.EventKey.{EventKey}
use Rattle.wm_event.specs.Execution.{ReadsFrom}
use Rattle.wm_event.specs.LoggedRun.{LoggedRun, execution}
use Rattle.wm_event.specs.declared.event.EventId.{EventId}
use Rattle.wm_event.specs.declared.event.EventId.TheVariants.{At}
use Rattle.wm_event.specs.HappensBefore.{HappensBefore, SequencedBefore, SynchronizesWith}
use Rattle.wm_event.specs.Rules.{KeepsOrder}
use Rattle.wm_closure.specs.Graph.{IsAmong, sources_of}

-- r is the next event of p's thread, or p synchronizes with r
abbrev pub IsStep : LoggedRun → EventKey → EventKey → Type 0
IsStep x p r = (SequencedBefore (execution x) p r × (p.number + 1 ≡ r.number)) ⊎ SynchronizesWith (execution x) p r

-- the event at this place of the order
abbrev pub StandsAt : LoggedRun → ℕ → EventKey → Type 0
StandsAt x n key = slice_get x.witness.order n ≡ Some key

-- the places of the events that have a step to r
abbrev pub AreSources : LoggedRun → EventKey → List ℕ → Type 0
AreSources x r sources = (m : ℕ) → IsAmong sources (length sources) m ↔ ((p : EventKey) × StandsAt x m p × IsStep x p r)

-- node n is the event at place n
pub record IsGraphOf (x : LoggedRun) (graph : List (List ℕ)) : Type 0 where
  pub size : length graph ≡ length x.witness.order
  pub edges : (n : ℕ) (r : EventKey) → StandsAt x n r → AreSources x r (sources_of graph n)

-- the threads of the events, by their place
abbrev pub AreThreads : LoggedRun → List ℕ → Type 0
AreThreads x threads = threads ≡ map (λ key. key.thread) x.witness.order

abbrev pub IsNext : LoggedRun → EventKey → EventKey → Type 0
IsNext x p r = SequencedBefore (execution x) p r × (p.number + 1 ≡ r.number)

-- r is the next event of p's thread, or p synchronizes with r and one of the first n bytes of r has writer p
abbrev pub IsStepWithin : LoggedRun → ℕ → EventKey → EventKey → Type 0
IsStepWithin x n p r = IsNext x p r ⊎ (SynchronizesWith (execution x) p r × ((k : ℕ) × (k < n) × ReadsFrom (execution x) r k (At p)))

abbrev pub AreSourcesWithin : LoggedRun → EventKey → ℕ → List ℕ → Type 0
AreSourcesWithin x r n sources = (m : ℕ) → IsAmong sources (length sources) m ↔ ((p : EventKey) × StandsAt x m p × IsStepWithin x n p r)

-- the graph, over an order that agrees with happens-before
pub record IsHappensBefore (x : LoggedRun) (graph : List (List ℕ)) : Type 0 where
  pub edges : IsGraphOf x graph
  pub agrees : KeepsOrder (execution x)

-- for the events at two places: whether the first happens before the second
abbrev pub DecidesBefore : LoggedRun → ℕ → ℕ → Bool → Type 0
DecidesBefore x from to b = (p r : EventKey) → StandsAt x from p → StandsAt x to r → IsTrue b ↔ HappensBefore (execution x) (At p) (At r)

-- the place of the event before this one in its thread; None if it is the first
abbrev pub FindsPrevious : LoggedRun → EventKey → Option ℕ → Type 0
FindsPrevious x r result = MatchOption result ((p : EventKey) → IsNext x p r → ⊥) (λ m. (p : EventKey) × StandsAt x m p × IsNext x p r)

-- the place of the writer; None if it doesn't synchronize with the reader
abbrev pub FindsWriter : LoggedRun → EventId → EventKey → Option ℕ → Type 0
FindsWriter x writer reader result = MatchOption result
    ((p : EventKey) → writer ≡ At p → SynchronizesWith (execution x) p reader → ⊥)
    (λ m. (p : EventKey) × (writer ≡ At p) × StandsAt x m p × SynchronizesWith (execution x) p reader)
