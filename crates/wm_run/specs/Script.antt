-- The effects of a script's turns, one after the other.
use Rattle.std.specs.Prelude.{◌≡◌, ℕ, suc, ◌<◌, ◌≤◌, List, [], ◌∷◌, ◌++◌, length, reverse, slice_get, slice_set, Option, Some, None}
use Rattle.wm_ast.specs.declared.module.Module.{Module}
use Rattle.wm_event.specs.Limits.{max_events}
use Rattle.wm_event.specs.declared.log.End.{End}
use Rattle.wm_event.specs.declared.op.OpFields.{OpFields}
use Rattle.wm_machine.specs.Term.{Config, Over, ReducesTo}
use Rattle.wm_machine.specs.Step.{access_of, step}
use Rattle.wm_memory.specs.declared.history_step.HistoryStep.{HistoryStep}
use Rattle.wm_memory.specs.declared.history_step.HistoryStep.TheVariants as item
use Rattle.wm_memory.specs.Legal.{MayFollow}
use Rattle.wm_memory.specs.Memory.{drains_first, ready}
use Rattle.wm_memory.specs.Visibility.{Step as Done, events, made_after, steps}
use Rattle.wm_recorder.specs.Transcript.{access_items}
use Rattle.wm_run.specs.declared.turn.Turn.{Turn}
use Rattle.wm_run.specs.declared.turn.Turn.TheVariants.{Step, Drain, DrainAt}

-- the module, its initial memory, and the most steps of each thread
pub record Setting : Type 0 where
  pub program : Module
  pub initial : List ℕ
  pub limit : ℕ

-- the state of a thread, after this number of steps
pub record ThreadState : Type 0 where
  pub config : Config
  pub made : ℕ

-- the threads, and what they did to memory, the oldest first
pub record ScriptState : Type 0 where
  pub threads : List ThreadState
  pub history : List HistoryStep

-- what the history did, the newest first
abbrev pub done : Setting → List HistoryStep → List Done
done g history = steps g.initial (reverse history)

-- the thread makes no further step: it has ended, has made its steps, or is before an access while the log is full
pub data Rests (g : Setting) (history : List HistoryStep) (thread : ThreadState) : Type 0 where
  ended : (end : End) → thread.config ≡ Over end → Rests g history thread
  spent : g.limit ≤ thread.made → Rests g history thread
  full : (op : OpFields) → ((read : ℕ) → access_of (step g.program read thread.config) ≡ Some op) → max_events ≤ length (events (done g history))
      → Rests g history thread

-- the value that an access of thread t reads, after the drain that a full buffer forces
abbrev pub value_read : Setting → List HistoryStep → ℕ → OpFields → ℕ
value_read g history t op = (made_after g.initial (ready (done g history) t op) t op).read

-- the next step of thread t leads there, and adds these items to the history
pub data StepsTo (g : Setting) (history : List HistoryStep) (t : ℕ) (thread : ThreadState) : ThreadState → List HistoryStep → Type 0 where
  local : {next : Config} → thread.made < g.limit → step g.program 0 thread.config ≡ ReducesTo None next
      → StepsTo g history t thread (record { config = next; made = suc thread.made }) []
  access : {op : OpFields} {next : Config} → thread.made < g.limit → length (events (done g history)) < max_events
      → ((read : ℕ) → access_of (step g.program read thread.config) ≡ Some op) → step g.program (value_read g history t op) thread.config ≡ ReducesTo (Some op) next
      → StepsTo g history t thread (record { config = next; made = suc thread.made }) (access_items (drains_first (done g history) t op) t op)

-- the drain of a turn
abbrev pub drain_of : Turn → Option HistoryStep
drain_of (Step t) = None
drain_of (Drain t) = Some (item.Drain t)
drain_of (DrainAt t k) = Some (item.DrainAt t k)

-- the drain may follow the history
abbrev pub MayDrain : Setting → ScriptState → HistoryStep → Type 0
MayDrain g state drain = MayFollow (length state.threads) (length g.initial) (done g state.history) drain

-- the state that a turn leads to
pub data TurnLeads (g : Setting) (old : ScriptState) : Turn → ScriptState → Type 0 where
  steps_on : {t : ℕ} {thread next : ThreadState} {items : List HistoryStep} → slice_get old.threads t ≡ Some thread → StepsTo g old.history t thread next items
      → TurnLeads g old (Step t) (record { threads = slice_set old.threads t next; history = old.history ++ items })
  -- a step of an idle thread does nothing
  rests : {t : ℕ} {thread : ThreadState} → slice_get old.threads t ≡ Some thread → Rests g old.history thread → TurnLeads g old (Step t) old
  drains : {turn : Turn} {drain : HistoryStep} → drain_of turn ≡ Some drain → MayDrain g old drain
      → TurnLeads g old turn (record { threads = old.threads; history = old.history ++ drain ∷ [] })
  -- a drain that may not follow does nothing
  keeps : {turn : Turn} {drain : HistoryStep} → drain_of turn ≡ Some drain → (MayDrain g old drain → ⊥) → TurnLeads g old turn old

-- the state that the turns lead to, one after the other
abbrev pub TurnsLead : Setting → ScriptState → List Turn → ScriptState → Type 0
TurnsLead g first [] last = first ≡ last
TurnsLead g first (turn ∷ turns) last = (next : ScriptState) × TurnLeads g first turn next × TurnsLead g next turns last
