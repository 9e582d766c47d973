-- The threads of a crew: what they know, and the ends that they leave for the one that gathers them.
use Rattle.std.specs.Prelude.{◌≡◌, ℕ, ◌<◌, Bool, List, [], IfSome, None, Some, Option, length, slice_index_or}
use Rattle.wm_ast.specs.declared.module.Module.{Module}
use denote.Struct.Props.{props}
use Rattle.wm_event.specs.declared.log.End.{End}
use Rattle.wm_event.specs.declared.log.End.TheVariants.{Done, Trap, Cut}
use Rattle.wm_event.specs.declared.log.Start.{Start}
use Rattle.wm_logfile.specs.Document.{EndFits}
use Rattle.wm_run.specs.declared.rounds.ended.ThreadEnd.{ThreadEnd}
use Rattle.wm_run.specs.declared.plan.Plan.{Plan}
use Rattle.wm_run.specs.RoundPlans.{IsRoundPlan}
use Rattle.wm_run.specs.Worker.{IsEndOf}
use Rattle.wm_valid.specs.Valid.{IsInit}

-- the module with nothing in it
abbrev pub no_module : Module
no_module = record { types = []; funcs = []; memory = None; globals = []; exports = []; «data» = [] }

-- the plan of no thread
abbrev pub no_plan : Plan
no_plan = record { starts = []; steps = 0; drains = 0 }

-- the slot of a thread of a plan: it has the thread's end, or nothing
abbrev pub IsSlotOf : Bool → Module → Plan → ℕ → Option ThreadEnd → Type 0
IsSlotOf is_open «module» plan t slot = (start : Start) → IfSome slot (IsEndOf is_open «module» t (slice_index_or plan.starts t start) plan.steps)

-- the slots of all threads of a plan
abbrev pub AreSlotsOf : Bool → Module → Plan → List (Option ThreadEnd) → Type 0
AreSlotsOf is_open «module» plan slots =
    (length slots ≡ length plan.starts)
    × ((t : ℕ) (s : Option ThreadEnd) → t < length plan.starts → IsSlotOf is_open «module» plan t (slice_index_or slots t s))

-- there is one proof at most that an end fits, so a ghost field can keep it
pub EndFits-prop : (e : End) → IsProp (EndFits e)
EndFits-prop (Done None) = hlevel props
EndFits-prop (Done (Some v)) = hlevel props
EndFits-prop (Trap kind) = hlevel props
EndFits-prop Cut = hlevel props

-- a round can follow the plan, with this Init and for this number of threads
pub record CanMakeRounds («module» : Module) (plan : Plan) (initial : List ℕ) (threads : ℕ) : Type 0 where
  pub planned : IsRoundPlan plan
  pub init : IsInit «module» initial
  pub threads_are : threads ≡ length plan.starts
