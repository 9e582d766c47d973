-- The executions of a module whose threads are started in given ways, and their outcomes.
use Rattle.std.specs.Prelude.{◌≡◌, ◌≢◌, ℕ, ◌<◌, ◌≤◌, List, Some, IsSome, length, map, slice_get}
use Rattle.wm_ast.specs.declared.module.Module.{Module}
use Rattle.wm_event.specs.Execution.{Execution, ReadsFrom}
use Rattle.wm_event.specs.HappensBefore.{SequencedBefore}
use Rattle.wm_event.specs.Limits.{max_steps}
use Rattle.wm_event.specs.LoggedRun.{LoggedRun, execution}
use Rattle.wm_event.specs.Rules.{IsValid}
use Rattle.wm_event.specs.Shape.{IsWellShaped}
use Rattle.wm_event.specs.declared.event.EventId.TheVariants.{At}
use Rattle.wm_event.specs.declared.event.EventKey.{EventKey}
use Rattle.wm_event.specs.declared.log.End.{End}
use Rattle.wm_event.specs.declared.log.End.TheVariants.{Cut}
use Rattle.wm_event.specs.declared.log.Start.{Start}
use Rattle.wm_event.specs.declared.log.ThreadLog.{ThreadLog}
use Rattle.wm_replay.specs.Replay.{AreRuns}
use Rattle.wm_valid.specs.Valid.{IsInit}

-- each thread has ended: it returned or trapped
abbrev pub IsFinished : List ThreadLog → Type 0
IsFinished log = (k : ℕ) (t : ThreadLog) → slice_get log k ≡ Some t → t.end ≢ Cut

abbrev pub starts_of : List ThreadLog → List Start
starts_of log = map (λ t. t.start) log

abbrev pub ends_of : List ThreadLog → List End
ends_of log = map (λ t. t.end) log

-- x is a valid execution of the module in which each thread has ended: its threads are started so and run the module
pub record IsExecutionOf (m : Module) (starts : List Start) (x : LoggedRun) : Type 0 where
  pub initial : IsInit m x.initial
  pub started : starts_of x.log ≡ starts
  pub runs : AreRuns m x.log
  pub finished : IsFinished x.log
  pub shaped : IsWellShaped x
  pub valid : IsValid (execution x)

-- each event has a time, after the earlier events of its thread and after the events that wrote its bytes
pub record HasTimes (x : Execution) (time : EventKey → ℕ) : Type 0 where
  pub threads : (a b : EventKey) → SequencedBefore x a b → time a < time b
  pub reads : (r w : EventKey) (k : ℕ) → IsSome (x.event_of r) → ReadsFrom x r k (At w) → time w < time r

-- program order with reads-from, of any byte, has no cycle
abbrev pub IsCausal : Execution → Type 0
IsCausal x = (time : EventKey → ℕ) × HasTimes x time

-- no thread has more events than this, or more than 1,000,000 steps
abbrev pub IsWithin : ℕ → List ThreadLog → Type 0
IsWithin n log = (k : ℕ) (t : ThreadLog) → slice_get log k ≡ Some t → (length t.events ≤ n) × (t.steps ≤ max_steps)

-- some valid and causal execution of the module in which each thread has ended has these ends
pub record IsOutcome (m : Module) (starts : List Start) (ends : List End) : Type 0 where
  pub x : LoggedRun
  pub is_execution : IsExecutionOf m starts x
  pub causal : IsCausal (execution x)
  pub has : ends_of x.log ≡ ends

-- the same, with at most so many events and 1,000,000 steps of each thread
pub record IsOutcomeWithin (n : ℕ) (m : Module) (starts : List Start) (ends : List End) : Type 0 where
  pub x : LoggedRun
  pub is_execution : IsExecutionOf m starts x
  pub causal : IsCausal (execution x)
  pub within : IsWithin n x.log
  pub has : ends_of x.log ≡ ends
