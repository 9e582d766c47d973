-- The views of a script's threads, with the memory that they share.
use Rattle.std.specs.Prelude.{◌≡◌, ℕ, suc, ◌≤◌, List, [], ◌∷◌, length, map, slice_get, slice_set, All, Some}
use Rattle.wm_ast.specs.declared.module.Module.{Module}
use Rattle.wm_machine.specs.Paths.{Moves as ThreadMoves}
use Rattle.wm_machine.specs.Reach.{HasEnded}
use Rattle.wm_machine.specs.State.{State, config_of}
use Rattle.wm_memory.specs.declared.history_step.HistoryStep.{HistoryStep}
use Rattle.wm_memory.specs.Legal.{MayFollow}
use Rattle.wm_recorder.specs.Recorder.{Adds, Recording, initial_of, steps_of, threads_of}
use Rattle.wm_valid.specs.Valid.{IsInit}
use Rattle.wm_run.specs.declared.runner.Moved.{Moved}
use Rattle.wm_run.specs.declared.runner.Moved.TheVariants.{Stepped, Rested}
use Rattle.wm_run.specs.declared.runner.Runner.{Runner}
use Rattle.wm_run.specs.declared.turn.Turn.{Turn}
use Rattle.wm_run.specs.Plan.{thread_of}
use Rattle.wm_run.specs.Script.{TurnsLead, Rests, ScriptState, Setting, ThreadState, StepsTo, TurnLeads}

abbrev pub thread_state : State → ℕ → ThreadState
thread_state thread made = record { config = config_of thread; made = made }

abbrev pub runner_state : Runner → ThreadState
runner_state runner = thread_state runner.thread runner.made

abbrev pub setting_of : Module → Recording → ℕ → Setting
setting_of m recorder limit = record { program = m; initial = initial_of recorder; limit = limit }

abbrev pub script_state : List Runner → Recording → ScriptState
script_state runners recorder = record { threads = map runner_state runners; history = recorder.history }

-- the threads are of the module, and the recorder has as many threads and the module's initial memory
pub record IsSet (m : Module) (runners : List Runner) (recorder : Recording) : Type 0 where
  pub programs : All (λ (runner : Runner). runner.thread.module ≡ m) runners
  pub count : threads_of recorder ≡ length runners
  pub initial : IsInit m (initial_of recorder)

-- a step of thread t, from one state to the other
pub record RunnerStep (m : Module) (t limit : ℕ) (old : ThreadState) (recorder : Recording) (new : ThreadState) (recorder' : Recording) : Type 0 where
  pub items : List HistoryStep
  pub steps : StepsTo (setting_of m recorder limit) recorder.history t old new items
  pub adds : Adds items recorder recorder'

-- a thread that hadn't ended has made a step
pub record StepsFrom (old new : State) : Type 0 where
  pub runs : HasEnded (config_of old) → ⊥
  pub moves : ThreadMoves old.module old new

-- for any limit above the number of steps, and any number of steps made so far
abbrev pub Advances : ℕ → State → Recording → State → Recording → Moved → Type 0
Advances t old recorder new recorder' Stepped =
    StepsFrom old new
    × ((made limit : ℕ) → suc made ≤ limit → RunnerStep old.module t limit (thread_state old made) recorder (thread_state new (suc made)) recorder')
Advances t old recorder new recorder' Rested =
    (new ≡ old) × (recorder' ≡ recorder) × ((made limit : ℕ) → Rests (setting_of old.module recorder limit) recorder.history (thread_state old made))

-- a step of thread t; or the thread makes no step, and is unchanged
pub data Moves (t limit : ℕ) (old : Runner) (recorder : Recording) (new : Runner) (recorder' : Recording) : Type 0 where
  steps_on : new.made ≡ suc old.made → StepsFrom old.thread new.thread → RunnerStep old.thread.module t limit (runner_state old) recorder (runner_state new) recorder'
      → Moves t limit old recorder new recorder'
  rests : new ≡ old → recorder' ≡ recorder → Rests (setting_of old.thread.module recorder limit) recorder.history (runner_state old) → Moves t limit old recorder new recorder'

-- the drain may follow the recorder's history
abbrev pub MayDrainFrom : Recording → HistoryStep → Type 0
MayDrainFrom recorder drain = MayFollow (threads_of recorder) (length (initial_of recorder)) (steps_of recorder) drain

-- the drain was added if it may follow, otherwise nothing changed
pub data DrainsBy (drain : HistoryStep) (old new : Recording) : Type 0 where
  drains : MayDrainFrom old drain → Adds (drain ∷ []) old new → DrainsBy drain old new
  keeps : (MayDrainFrom old drain → ⊥) → new ≡ old → DrainsBy drain old new

-- thread t has made a step, or all threads are unchanged
pub data RunnersMove (t : ℕ) (old : List Runner) : List Runner → Type 0 where
  one_moves : {runner next : Runner} → slice_get old t ≡ Some runner → next.made ≡ suc runner.made → StepsFrom runner.thread next.thread → RunnersMove t old (slice_set old t next)
  none_moves : RunnersMove t old old

-- the turn was taken, with the same number of threads and the same memory
pub record TakesTurn (m : Module) (limit : ℕ) (turn : Turn) (old : List Runner) (recorder : Recording) (new : List Runner) (recorder' : Recording) : Type 0 where
  pub takes : TurnLeads (setting_of m recorder limit) (script_state old recorder) turn (script_state new recorder')
  pub moves : RunnersMove (thread_of turn) old new
  pub set : IsSet m new recorder'
  pub count : length new ≡ length old
  pub initial : initial_of recorder' ≡ initial_of recorder

-- the same for turns one after the other
pub record PlaysTurns (m : Module) (limit : ℕ) (turns : List Turn) (old : List Runner) (recorder : Recording) (new : List Runner) (recorder' : Recording) : Type 0 where
  pub plays : TurnsLead (setting_of m recorder limit) (script_state old recorder) turns (script_state new recorder')
  pub set : IsSet m new recorder'
  pub count : length new ≡ length old
  pub initial : initial_of recorder' ≡ initial_of recorder
