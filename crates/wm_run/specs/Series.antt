-- Rounds that are made for a taker.
use Rattle.std.specs.Prelude.{ℕ, ◌<◌, Bool}
use Rattle.wm_ast.specs.declared.module.Module.{Module}
use Rattle.wm_run.specs.declared.plan.Plan.{Plan}
use Rattle.wm_run.specs.Own.{IsWithinPlan}
use Rattle.wm_run.specs.RoundPlans.{IsRound}
use Rattle.wm_run.specs.Run.{Record}

-- each round of a plan, within the limits of a document, is one that is taken
abbrev pub TakesRounds : Bool → Module → Plan → (Record → Type 0) → Type 0
TakesRounds is_open m plan takes = (run : Record) → IsRound is_open m plan run → IsWithinPlan run → takes run

-- a number of rounds has been taken, and it is below a number that may be made
pub record HasTakenFewer (has_taken may_make : ℕ → Type 0) : Type 0 where
  pub taken : ℕ
  pub is_taken : has_taken taken
  pub count : ℕ
  pub may : may_make count
  pub fewer : taken < count
