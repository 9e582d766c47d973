-- Why a run isn't made.
use Rattle.std.specs.Prelude.{◌≡◌, ℕ, ◌<◌, List, Ok, Err, Some, slice_get, ⊤}
use Rattle.wm_ast.specs.declared.module.Module.{Module}
use Rattle.wm_event.specs.declared.log.Start.{Start}
use Rattle.wm_machine.specs.declared.fault.StartFault.{StartFault}
use Rattle.wm_machine.specs.Start.{started}
use Rattle.wm_machine.specs.Term.{Config}
use Rattle.wm_run.specs.declared.fault.RunFault.{RunFault}
use Rattle.wm_run.specs.declared.fault.RunFault.TheVariants as run
use Rattle.wm_run.specs.declared.plan.Plan.{Plan}
use Rattle.wm_run.specs.declared.turn.Turn.{Turn}
use Rattle.wm_run.specs.Plan.{IsPlan, IsPlanFault}

-- thread t is the first that doesn't start, for this reason
pub record IsFirstRefused (m : Module) (starts : List Start) (t : ℕ) (fault : StartFault) : Type 0 where
  pub start : Start
  pub listed : slice_get starts t ≡ Some start
  pub refused : started m start.name start.args ≡ Err fault
  pub others : (k : ℕ) (other : Start) → k < t → slice_get starts k ≡ Some other → (c : Config) × (started m other.name other.args ≡ Ok c)

-- each thread starts
abbrev pub AllStart : Module → List Start → Type 0
AllStart m starts = (t : ℕ) (start : Start) → slice_get starts t ≡ Some start → (c : Config) × (started m start.name start.args ≡ Ok c)

-- why a script isn't played: first the fault of the plan, then the first thread that doesn't start
abbrev pub IsScriptFault : Module → Plan → List Turn → RunFault → Type 0
IsScriptFault m plan turns (run.Plan fault) = IsPlanFault plan turns fault
IsScriptFault m plan turns (run.Start t fault) = IsPlan plan turns × IsFirstRefused m plan.starts t fault
IsScriptFault m plan turns run.OutOfMemory = ⊤
IsScriptFault m plan turns (run.Split t) = ⊥
IsScriptFault m plan turns (run.Ends t) = ⊥
IsScriptFault m plan turns run.Foreign = ⊥
