-- The result of a round, and why it isn't made.
use Rattle.std.specs.Prelude.{◌≡◌, ℕ, ◌<◌, ◌≤◌, ◌⊎◌, List, Bool, true, false, Result, Some, length, map, slice_get, slice_index_or, ⊤}
use Rattle.wm_ast.specs.declared.module.Module.{Module}
use Rattle.wm_event.specs.Limits.{max_events, max_steps}
use Rattle.wm_event.specs.declared.log.End.TheVariants.{Cut}
use Rattle.wm_event.specs.declared.log.Start.{Start}
use Rattle.wm_event.specs.declared.log.ThreadLog.{ThreadLog}
use Rattle.wm_run.specs.Limits.{max_turns}
use Rattle.wm_valid.specs.Valid.{IsInit}
use Rattle.wm_run.specs.declared.rounds.ended.ThreadEnd.{ThreadEnd}
use Rattle.wm_run.specs.declared.fault.PlanFault.{PlanFault}
use Rattle.wm_run.specs.declared.fault.PlanFault.TheVariants as fault
use Rattle.wm_run.specs.declared.fault.RunFault.{RunFault}
use Rattle.wm_run.specs.declared.fault.RunFault.TheVariants as run
use Rattle.wm_run.specs.declared.plan.Plan.{Plan}
use Rattle.wm_run.specs.Own.{IsAllowedOver, IsOwnRun}
use Rattle.wm_run.specs.Plan.{HasThreads}
use Rattle.wm_run.specs.Reached.{stands_before_access}
use Rattle.wm_run.specs.Refusal.{AllStart, IsFirstRefused}
use Rattle.wm_run.specs.Run.{Record}
use Rattle.wm_run.specs.Worker.{IsEndOf, IsWorkOf}

-- each result is the result of a worker for its thread
abbrev pub AreWorkOf : Bool → Module → List Start → ℕ → List (Result ThreadEnd RunFault) → Type 0
AreWorkOf is_open m starts steps results =
    (length results ≡ length starts)
    × ((i : ℕ) (d : Start) (e : Result ThreadEnd RunFault) → i < length starts → IsWorkOf is_open m i (slice_index_or starts i d) steps (slice_index_or results i e))

-- the results for the threads of a plan
abbrev pub AreWorkOfPlan : Bool → Module → Plan → List (Result ThreadEnd RunFault) → Type 0
AreWorkOfPlan is_open m plan results = AreWorkOf is_open m plan.starts plan.steps results

-- each end is the end of its thread with its start
abbrev pub AreEndsOf : Bool → Module → List Start → ℕ → List ThreadEnd → Type 0
AreEndsOf is_open m starts steps ends =
    (length ends ≡ length starts)
    × ((i : ℕ) (d : Start) (e : ThreadEnd) → i < length starts → IsEndOf is_open m i (slice_index_or starts i d) steps (slice_index_or ends i e))

-- a plan that a round can follow
pub record IsRoundPlan (plan : Plan) : Type 0 where
  pub threads : HasThreads plan
  pub steps : plan.steps ≤ max_steps
  pub drains : plan.drains ≤ max_turns

-- the first fault of any other plan
abbrev pub IsRoundPlanFault : Plan → PlanFault → Type 0
IsRoundPlanFault plan fault.Threads = HasThreads plan → ⊥
IsRoundPlanFault plan fault.Steps = HasThreads plan × (max_steps < plan.steps)
IsRoundPlanFault plan fault.Turns = HasThreads plan × (plan.steps ≤ max_steps) × (max_turns < plan.drains)
IsRoundPlanFault plan (fault.Turn t) = ⊥

-- the thread is before an access, and the gate isn't open or the log is full
abbrev pub IsHeld : Bool → Module → Record → ℕ → ThreadLog → Type 0
IsHeld is_open m run t thread = (stands_before_access m t thread ≡ true) × ((is_open ≡ false) ⊎ (max_events ≤ length run.witness.order))

-- the log of a round: it has the plan's starts, each thread is its run of at most this number of steps, the log and the
-- witness are what one legal history over the initial memory records, and they are allowed; a thread that is cut before
-- its last step is held
pub record IsRound (is_open : Bool) (m : Module) (plan : Plan) (run : Record) : Type 0 where
  pub starts : map (λ (thread : ThreadLog). thread.start) run.log ≡ plan.starts
  pub within : (t : ℕ) (thread : ThreadLog) → slice_get run.log t ≡ Some thread → thread.steps ≤ plan.steps
  pub own : IsOwnRun m run
  pub allowed : (initial : List ℕ) → IsInit m initial → IsAllowedOver m initial run
  pub early : (t : ℕ) (thread : ThreadLog) → slice_get run.log t ≡ Some thread → thread.end ≡ Cut → thread.steps < plan.steps → IsHeld is_open m run t thread

-- the plan is a round's, and each of its threads starts
pub record IsReady (m : Module) (plan : Plan) : Type 0 where
  pub planned : IsRoundPlan plan
  pub starts : AllStart m plan.starts

-- why a round isn't made: first the fault of the plan, then the first thread that doesn't start. Only if there is
-- neither, a thread of the plan may be split: its worker and the memory disagree on it
abbrev pub IsRoundFault : Module → Plan → RunFault → Type 0
IsRoundFault m plan (run.Plan fault) = IsRoundPlanFault plan fault
IsRoundFault m plan (run.Start t fault) = IsRoundPlan plan × IsFirstRefused m plan.starts t fault
IsRoundFault m plan (run.Split t) = IsReady m plan × (t < length plan.starts)
IsRoundFault m plan run.OutOfMemory = ⊤
IsRoundFault m plan (run.Ends t) = ⊥
IsRoundFault m plan run.Foreign = ⊥
