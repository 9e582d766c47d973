-- Chains of happens-before whose links state which edges they are.
use Rattle.std.specs.Prelude.{◌≡◌, ◌+◌, ◌<◌, ◌≤◌, List, [], ◌∷◌, All, IsSome, MatchOption, Option, length}
use Rattle.wm_event.specs.declared.event.EventKey.{EventKey}
use Rattle.wm_event.specs.declared.event.EventId.{EventId}
use Rattle.wm_event.specs.declared.event.EventId.TheVariants.{Init, At}
use Rattle.wm_event.specs.Execution.{Execution}
use Rattle.wm_event.specs.HappensBefore.{HappensBefore, SequencedBefore, SynchronizesWith, Chain}
use Rattle.wm_hb.specs.declared.chain.Link.{Link}
use Rattle.wm_hb.specs.declared.fault_chain.FaultChain.{FaultChain}
use Rattle.wm_hb.specs.declared.chain.LinkKind.{LinkKind}
use Rattle.wm_hb.specs.declared.chain.LinkKind.TheVariants.{Initial, Sequenced, Synchronizes}

-- a kind of link is the edge of that name: from Init to each event, from an event to a later one of its thread, and from
-- a write to a read that it synchronizes with
abbrev pub IsEdge : Execution → LinkKind → EventId → EventKey → Type 0
IsEdge x Initial Init b = IsSome (x.event_of b)
IsEdge x Initial (At a) b = ⊥
IsEdge x Sequenced Init b = ⊥
IsEdge x Sequenced (At a) b = SequencedBefore x a b
IsEdge x Synchronizes Init b = ⊥
IsEdge x Synchronizes (At a) b = SynchronizesWith x a b

-- from a through each of these links, in order, to b; without a link b is a
abbrev pub Leads : Execution → EventId → List Link → EventId → Type 0
Leads x a [] b = a ≡ b
Leads x a (l ∷ ls) b = IsEdge x l.kind a l.event × Leads x (At l.event) ls b

-- the links are a chain from a to b, and no chain of happens-before has fewer edges
pub record IsShortestChain (x : Execution) (a : EventId) (links : List Link) (b : EventId) : Type 0 where
  pub leads : Leads x a links b
  pub some : 0 < length links
  pub shortest : (between : List EventId) → Chain x a between b → length links ≤ length between + 1

-- each of these is a shortest chain between its two events
abbrev pub AreChains : Execution → List FaultChain → Type 0
AreChains x chains = All (λ chain. IsShortestChain x chain.from chain.links chain.to) chains

-- a shortest chain from one event to another; None if the first doesn't happen before the second
abbrev pub FindsChain : Execution → EventId → EventId → Option (List Link) → Type 0
FindsChain x a b result = MatchOption result (HappensBefore x a b → ⊥) (λ links. IsShortestChain x a links b)
