-- The trace of a script, in the views of its threads and their recorder.
use Rattle.std.specs.Prelude.{◌≡◌, ℕ, List, length, map, slice_get, Some}
use Rattle.wm_ast.specs.declared.module.Module.{Module}
use Rattle.wm_machine.specs.declared.thread.CodePosition.{CodePosition}
use Rattle.wm_machine.specs.Reach.{HasEnded}
use Rattle.wm_machine.specs.State.{State, config_of, position_of}
use Rattle.wm_recorder.specs.Recorder.{Recording, steps_of}
use Rattle.wm_run.specs.declared.runner.Runner.{Runner}
use Rattle.wm_run.specs.declared.scripts.traced.TracedTurn.{TracedTurn}
use Rattle.wm_run.specs.declared.scripts.traced.TurnDone.{TurnDone}
use Rattle.wm_run.specs.declared.turn.Turn.{Turn}
use Rattle.wm_run.specs.declared.turn.Turn.TheVariants.{Step, Drain, DrainAt}
use Rattle.wm_run.specs.Runner.{PlaysTurns, TakesTurn, runner_state, script_state, setting_of}
use Rattle.wm_run.specs.Traced.{DrainDoes, IsTracedTurn, StepDoes, TracesTurns}

-- what a turn of this thread does
abbrev pub TurnDoes : Runner → Recording → ℕ → Turn → TurnDone → Type 0
TurnDoes runner recorder limit (Step t) what = StepDoes (setting_of runner.thread.module recorder limit) (steps_of recorder) t (runner_state runner) what
TurnDoes runner recorder limit (Drain t) what = DrainDoes (steps_of recorder) t 0 what
TurnDoes runner recorder limit (DrainAt t k) what = DrainDoes (steps_of recorder) t k what

-- the states of the threads
abbrev pub machines_of : List Runner → List State
machines_of runners = map (λ (runner : Runner). runner.thread) runners

-- these positions of the threads are those of these states, each the state of its thread unless the thread has ended
pub record ArePositions (runners : List Runner) (machines : List State) (positions : List CodePosition) : Type 0 where
  pub count : length machines ≡ length runners
  pub each : (t : ℕ) (runner : Runner) (machine : State) → slice_get runners t ≡ Some runner → slice_get machines t ≡ Some machine → (HasEnded (config_of runner.thread) → ⊥) → machine ≡ runner.thread
  pub positions_are : positions ≡ map position_of machines

-- the entry states what the turn did from these states of the threads on
pub record TracesTurn (m : Module) (limit : ℕ) (turn : Turn) (old : List Runner) (recorder : Recording) (machines : List State) (entry : TracedTurn) (new : List Runner) (recorder' : Recording) (positions : List CodePosition) : Type 0 where
  pub moved : List State
  pub are_positions : ArePositions new moved positions
  pub traced : IsTracedTurn (setting_of m recorder limit) (script_state old recorder) machines turn entry (script_state new recorder') moved

-- the turn was taken, and the entry states what it did, whichever states have these positions
pub record TakesTraced (m : Module) (limit : ℕ) (turn : Turn) (old : List Runner) (recorder : Recording) (positions : List CodePosition) (entry : TracedTurn) (new : List Runner) (recorder' : Recording) (positions' : List CodePosition) : Type 0 where
  pub takes : TakesTurn m limit turn old recorder new recorder'
  pub traces : (machines : List State) → ArePositions old machines positions → TracesTurn m limit turn old recorder machines entry new recorder' positions'

-- the same for turns one after the other
pub record PlaysTraced (m : Module) (limit : ℕ) (turns : List Turn) (old : List Runner) (recorder : Recording) (entries : List TracedTurn) (new : List Runner) (recorder' : Recording) : Type 0 where
  pub plays : PlaysTurns m limit turns old recorder new recorder'
  pub traces : TracesTurns (setting_of m recorder limit) (script_state old recorder) (machines_of old) turns entries (script_state new recorder')
