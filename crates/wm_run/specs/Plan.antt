-- The requirements on a plan with the turns of its script, and the faults of a plan that violates them.
use Rattle.std.specs.Prelude.{◌≡◌, ℕ, ◌<◌, ◌≤◌, List, length, Some, slice_get}
use Rattle.wm_event.specs.Limits.{max_steps, max_threads}
use Rattle.wm_run.specs.Limits.{max_turns}
use Rattle.wm_run.specs.declared.fault.PlanFault.{PlanFault}
use Rattle.wm_run.specs.declared.fault.PlanFault.TheVariants as fault
use Rattle.wm_run.specs.declared.plan.Plan.{Plan}
use Rattle.wm_run.specs.declared.turn.Turn.{Turn}
use Rattle.wm_run.specs.declared.turn.Turn.TheVariants.{Step, Drain, DrainAt}

-- the thread whose turn it is
abbrev pub thread_of : Turn → ℕ
thread_of (Step t) = t
thread_of (Drain t) = t
thread_of (DrainAt t k) = t

-- it starts 1 to 16 threads
pub record HasThreads (plan : Plan) : Type 0 where
  pub some : 0 < length plan.starts
  pub few : length plan.starts ≤ max_threads

-- each turn is for one of this number of threads
abbrev pub AreTurnsOf : ℕ → List Turn → Type 0
AreTurnsOf threads turns = (k : ℕ) (turn : Turn) → slice_get turns k ≡ Some turn → thread_of turn < threads

-- some turn is for thread t, which isn't among this number of threads, and t is the least such thread
pub record IsLeastAbsent (threads : ℕ) (turns : List Turn) (t : ℕ) : Type 0 where
  pub absent : threads ≤ t
  pub listed : (k : ℕ) × ((turn : Turn) × (slice_get turns k ≡ Some turn) × (thread_of turn ≡ t))
  pub least : (k : ℕ) (turn : Turn) → slice_get turns k ≡ Some turn → threads ≤ thread_of turn → t ≤ thread_of turn

-- a plan that can be followed through these turns
pub record IsPlan (plan : Plan) (turns : List Turn) : Type 0 where
  pub threads : HasThreads plan
  pub steps : plan.steps ≤ max_steps
  pub few : length turns ≤ max_turns
  pub there : AreTurnsOf (length plan.starts) turns

-- the first fault of a plan and its turns
abbrev pub IsPlanFault : Plan → List Turn → PlanFault → Type 0
IsPlanFault plan turns fault.Threads = HasThreads plan → ⊥
IsPlanFault plan turns fault.Steps = HasThreads plan × (max_steps < plan.steps)
IsPlanFault plan turns fault.Turns = HasThreads plan × (plan.steps ≤ max_steps) × (max_turns < length turns)
IsPlanFault plan turns (fault.Turn t) = HasThreads plan × (plan.steps ≤ max_steps) × (length turns ≤ max_turns) × IsLeastAbsent (length plan.starts) turns t
