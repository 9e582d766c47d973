-- Cycles of happens-before, and the events that are on none.
use Rattle.std.specs.Prelude.{◌≡◌, ℕ, ◌+◌, ◌<◌, ◌≤◌, List, IsSome, MatchOption, Option, None, length, get_or, reverse, ◌++◌}
use Rattle.wm_event.specs.declared.event.EventKey.{EventKey}
use Rattle.wm_event.specs.declared.event.EventId.{EventId}
use Rattle.wm_event.specs.declared.event.EventId.TheVariants.{At}
use Rattle.wm_event.specs.Execution.{Execution}
use Rattle.wm_event.specs.HappensBefore.{Edge, HappensBefore, SynchronizesWith}
use Rattle.wm_hb.specs.Chain.{Leads}
use Rattle.wm_hb.specs.declared.chain.Link.{Link}
use Rattle.wm_hb.specs.declared.fault_chain.FaultChain.{FaultChain}

-- the chain leads from an event back to it
pub record IsCycle (x : Execution) (chain : FaultChain) : Type 0 where
  pub closed : chain.to ≡ chain.from
  pub leads : Leads x chain.from chain.links chain.to
  pub some : 0 < length chain.links

-- no event happens before itself
abbrev pub IsAcyclic : Execution → Type 0
IsAcyclic x = (a : EventId) → HappensBefore x a a → ⊥

-- a cycle; None if there is none
abbrev pub FindsCycle : Execution → Option FaultChain → Type 0
FindsCycle x result = MatchOption result (IsAcyclic x) (IsCycle x)

-- `scheduled` has a number of events of each thread, from its first one on: the event is among them
abbrev pub IsScheduled : List ℕ → EventKey → Type 0
IsScheduled scheduled key = key.number < get_or scheduled key.thread 0

-- the first event of a thread that isn't scheduled, if there is one
abbrev pub next_key : List ℕ → ℕ → EventKey
next_key scheduled t = record { thread = t; number = get_or scheduled t 0 }

-- the writer, if it synchronizes with the read and isn't scheduled
abbrev pub IsUnscheduled : Execution → List ℕ → EventId → EventKey → Option EventKey → Type 0
IsUnscheduled x scheduled writer r result = MatchOption result
    ((w : EventKey) → writer ≡ At w → SynchronizesWith x w r → IsScheduled scheduled w)
    (λ w. (writer ≡ At w) × SynchronizesWith x w r × (get_or scheduled w.thread 0 ≤ w.number))

-- a write that synchronizes with the read and isn't scheduled; None if all such writes are
abbrev pub FindsUnscheduled : Execution → List ℕ → EventKey → Option EventKey → Type 0
FindsUnscheduled x scheduled r result = MatchOption result
    ((w : EventKey) → SynchronizesWith x w r → IsScheduled scheduled w)
    (λ w. SynchronizesWith x w r × (get_or scheduled w.thread 0 ≤ w.number))

-- the next event of a thread, if it has one
abbrev pub FindsNext : Execution → List ℕ → ℕ → Option EventKey → Type 0
FindsNext x scheduled t result = MatchOption result
    (x.event_of (next_key scheduled t) ≡ None)
    (λ key. (key ≡ next_key scheduled t) × IsSome (x.event_of key))

-- the thread has a next event, and all writes that synchronize with it are scheduled
pub record IsReady (x : Execution) (scheduled : List ℕ) (t : ℕ) : Type 0 where
  pub there : IsSome (x.event_of (next_key scheduled t))
  pub after : (w : EventKey) → SynchronizesWith x w (next_key scheduled t) → IsScheduled scheduled w

-- what has an edge to a scheduled event is scheduled too, and no scheduled event is on a cycle
pub record IsSchedule (x : Execution) (scheduled : List ℕ) : Type 0 where
  pub closed : (a b : EventKey) → Edge x (At a) (At b) → IsScheduled scheduled b → IsScheduled scheduled a
  pub acyclic : (a : EventKey) → IsScheduled scheduled a → HappensBefore x (At a) (At a) → ⊥

-- no thread's next event can be scheduled
abbrev pub IsStuck : Execution → List ℕ → Type 0
IsStuck x scheduled = (t : ℕ) → IsReady x scheduled t → ⊥

-- the next event of the thread, if it is ready
abbrev pub FindsReady : Execution → List ℕ → ℕ → Option EventKey → Type 0
FindsReady x scheduled t result = MatchOption result (IsReady x scheduled t → ⊥) (λ key. (key ≡ next_key scheduled t) × IsReady x scheduled t)

-- the next event of a thread that is ready; None if no thread is
abbrev pub FindsFirstReady : Execution → List ℕ → Option EventKey → Type 0
FindsFirstReady x scheduled result = MatchOption result (IsStuck x scheduled) (λ key. (key ≡ next_key scheduled key.thread) × IsReady x scheduled key.thread)

-- an event that isn't scheduled, the next one of its thread
abbrev pub IsNextEvent : Execution → List ℕ → EventKey → Type 0
IsNextEvent x scheduled key = (key ≡ next_key scheduled key.thread) × IsSome (x.event_of key)

-- links were added, the last one first: a chain from `from` to `to`
abbrev pub AddsBack : Execution → List Link → List Link → EventKey → EventKey → Type 0
AddsBack x old new from to = (more : List Link) × (new ≡ old ++ more) × (0 < length more) × Leads x (At from) (reverse more) (At to)

-- the next event of a thread; None if no thread has one
abbrev pub FindsFirstNext : Execution → List ℕ → Option EventKey → Type 0
FindsFirstNext x scheduled result = MatchOption result
    ((t : ℕ) → x.event_of (next_key scheduled t) ≡ None)
    (IsNextEvent x scheduled)
