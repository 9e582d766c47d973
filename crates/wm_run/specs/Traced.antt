-- The effect of each turn of a script.
use Rattle.std.specs.Prelude.{◌≡◌, ℕ, suc, ◌<◌, ◌≤◌, List, [], ◌∷◌, length, map, reverse, slice_get, slice_set, Option, None, Some, if◌then◌else◌}
use Rattle.wm_ast.specs.declared.module.Module.{Module}
use Rattle.wm_event.specs.declared.event.EventKey.{EventKey}
use Rattle.wm_event.specs.declared.op.OpFields.{OpFields}
use Rattle.wm_event.specs.Event.{key_of}
use Rattle.wm_event.specs.Limits.{max_events}
use Rattle.wm_machine.specs.declared.thread.CodePosition.{CodePosition}
use Rattle.wm_machine.specs.Paths.{IsAtStart, Moves}
use Rattle.wm_machine.specs.Reach.{HasEnded}
use Rattle.wm_machine.specs.State.{State, config_of, position_of}
use Rattle.wm_machine.specs.Step.{access_of, step}
use Rattle.wm_machine.specs.Term.{Config}
use Rattle.wm_memory.specs.Memory.{drains_first, ready}
use Rattle.wm_memory.specs.Visibility.{Passes, Step as Done, events, made_after, waiting}
use Rattle.wm_valid.specs.Valid.{IsInit}
use Rattle.wm_run.specs.declared.plan.Plan.{Plan}
use Rattle.wm_run.specs.declared.scripts.traced.Rest.TheVariants.{Ended, Spent, Full}
use Rattle.wm_run.specs.declared.scripts.traced.TracedTurn.{TracedTurn}
use Rattle.wm_run.specs.declared.scripts.traced.TurnDone.{TurnDone}
use Rattle.wm_run.specs.declared.scripts.traced.TurnDone.TheVariants.{Stepped, Accessed, Rested, Drained, Absent, Held}
use Rattle.wm_run.specs.declared.turn.Turn.{Turn}
use Rattle.wm_run.specs.declared.turn.Turn.TheVariants as turn
use Rattle.wm_run.specs.Plan.{thread_of}
use Rattle.wm_run.specs.Run.{Record}
use Rattle.wm_run.specs.Script.{ScriptState, Setting, ThreadState, TurnLeads, done}
use Rattle.wm_run.specs.Scripted.{IsFirstState, IsLogOf}

-- the events of the stores in the buffer of thread t, the oldest first
abbrev pub pending : List Done → ℕ → List EventKey
pending s t = map key_of (reverse (waiting s t))

-- the oldest store of thread t, if its buffer is full and the access is a plain store
abbrev pub store_before : List Done → ℕ → OpFields → Option EventKey
store_before s t op = if drains_first s t op then slice_get (pending s t) 0 else None

-- the event that the access makes, after that drain
abbrev pub event_of : Setting → List Done → ℕ → OpFields → EventKey
event_of g s t op = key_of (made_after g.initial (ready s t op) t op)

-- the next step makes this access, whatever it reads
abbrev pub Asks : Setting → ThreadState → OpFields → Type 0
Asks g thread op = (read : ℕ) → access_of (step g.program read thread.config) ≡ Some op

-- what a step of thread t does: nothing if the thread has ended, else if it has made all its steps, else if it is
-- before an access and the log is full
pub data StepDoes (g : Setting) (s : List Done) (t : ℕ) (thread : ThreadState) : TurnDone → Type 0 where
  ended : HasEnded thread.config → StepDoes g s t thread (Rested Ended)
  spent : (HasEnded thread.config → ⊥) → g.limit ≤ thread.made → StepDoes g s t thread (Rested Spent)
  full : (op : OpFields) → thread.made < g.limit → Asks g thread op → max_events ≤ length (events s) → StepDoes g s t thread (Rested Full)
  accessed : (op : OpFields) → thread.made < g.limit → Asks g thread op → length (events s) < max_events
      → StepDoes g s t thread (Accessed (event_of g s t op) (store_before s t op))
  stepped : (HasEnded thread.config → ⊥) → thread.made < g.limit → access_of (step g.program 0 thread.config) ≡ None → StepDoes g s t thread Stepped

-- what a drain of the store of thread t that has k older ones does
pub data DrainDoes (s : List Done) (t k : ℕ) : TurnDone → Type 0 where
  drained : (store : EventKey) → slice_get (pending s t) k ≡ Some store → Passes k (waiting s t) → DrainDoes s t k (Drained store)
  held : k < length (waiting s t) → (Passes k (waiting s t) → ⊥) → DrainDoes s t k Held
  absent : length (waiting s t) ≤ k → DrainDoes s t k Absent

-- what a turn does in this state
abbrev pub Does : Setting → ScriptState → Turn → TurnDone → Type 0
Does g state (turn.Step t) what = (thread : ThreadState) × (slice_get state.threads t ≡ Some thread) × StepDoes g (done g state.history) t thread what
Does g state (turn.Drain t) what = DrainDoes (done g state.history) t 0 what
Does g state (turn.DrainAt t k) what = DrainDoes (done g state.history) t k what

-- ---- the positions of the threads. `machines` has the state of each thread before its next step, or, if the thread has
-- ended, before its last one

-- the thread of the module in this configuration is at the start of its function
pub record IsStartOf (m : Module) (config : Config) (machine : State) : Type 0 where
  pub program : machine.module ≡ m
  pub config_is : config_of machine ≡ config
  pub at_start : IsAtStart machine

-- each thread is at the start of its function
pub record AreStartsOf (m : Module) (state : ScriptState) (machines : List State) : Type 0 where
  pub count : length machines ≡ length state.threads
  pub each : (t : ℕ) (thread : ThreadState) (machine : State) → slice_get state.threads t ≡ Some thread → slice_get machines t ≡ Some machine → IsStartOf m thread.config machine

-- a step that led to this configuration has moved the thread; a thread that has ended stays where it made the step
pub data StepMoves (m : Module) (config : Config) (old : State) : State → Type 0 where
  goes_on : {new : State} → (HasEnded config → ⊥) → new.module ≡ m → config_of new ≡ config → Moves m old new → StepMoves m config old new
  stays : HasEnded config → StepMoves m config old old

-- a turn of thread t moves that thread if it made a step, and no other
pub data TurnMoves (m : Module) (t : ℕ) (old new : ScriptState) (machines : List State) : List State → Type 0 where
  one_moves : {thread next : ThreadState} {before after : State} → slice_get old.threads t ≡ Some thread → slice_get new.threads t ≡ Some next → next.made ≡ suc thread.made
      → slice_get machines t ≡ Some before → StepMoves m next.config before after → TurnMoves m t old new machines (slice_set machines t after)
  none_moves : new.threads ≡ old.threads → TurnMoves m t old new machines machines

-- thread t is at this position of the module's code
pub record IsAt (state : ScriptState) (machines : List State) (t : ℕ) (position : CodePosition) : Type 0 where
  pub thread : ThreadState
  pub listed : slice_get state.threads t ≡ Some thread
  pub machine : State
  pub is_machine : slice_get machines t ≡ Some machine
  pub config : (HasEnded thread.config → ⊥) → config_of machine ≡ thread.config
  pub is_position : position_of machine ≡ position

-- what the turn did, from the one state to the other
pub record IsTracedTurn (g : Setting) (old : ScriptState) (machines : List State) (turn : Turn) (entry : TracedTurn) (new : ScriptState) (moved : List State) : Type 0 where
  pub turn_is : entry.turn ≡ turn
  pub leads : TurnLeads g old turn new
  pub does : Does g old turn entry.done
  pub at : IsAt old machines (thread_of turn) entry.position
  pub moves : TurnMoves g.program (thread_of turn) old new machines moved
  pub left : entry.pending ≡ pending (done g new.history) (thread_of turn)

-- the same for turns one after the other, with an entry for each
abbrev pub TracesTurns : Setting → ScriptState → List State → List Turn → List TracedTurn → ScriptState → Type 0
TracesTurns g first machines [] [] last = first ≡ last
TracesTurns g first machines (turn ∷ turns) (entry ∷ entries) last =
    (next : ScriptState) × (moved : List State) × IsTracedTurn g first machines turn entry next moved × TracesTurns g next moved turns entries last
TracesTurns g first machines [] (entry ∷ entries) last = ⊥
TracesTurns g first machines (turn ∷ turns) [] last = ⊥

-- the entries state what each turn did in the scripted run that was recorded this way
pub record IsTraced (m : Module) (plan : Plan) (turns : List Turn) (run : Record) (entries : List TracedTurn) : Type 0 where
  pub setting : Setting
  pub program : setting.program ≡ m
  pub initial : IsInit m setting.initial
  pub limit : setting.limit ≡ plan.steps
  pub first : ScriptState
  pub last : ScriptState
  pub begins : IsFirstState m plan.starts first
  pub machines : List State
  pub at_start : AreStartsOf m first machines
  pub traces : TracesTurns setting first machines turns entries last
  pub logged : IsLogOf plan.starts last.threads (done setting last.history) run
