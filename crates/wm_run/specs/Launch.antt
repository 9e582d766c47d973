-- The starts of a plan's threads.
use Rattle.std.specs.Prelude.{◌≡◌, ℕ, List, length, Some, slice_get, ⊤}
use Rattle.wm_ast.specs.declared.module.Module.{Module}
use Rattle.wm_event.specs.declared.log.Start.{Start}
use Rattle.wm_machine.specs.Paths.{IsAtStart}
use Rattle.wm_run.specs.declared.fault.RunFault.{RunFault}
use Rattle.wm_run.specs.declared.fault.RunFault.TheVariants as run
use Rattle.wm_run.specs.declared.runner.Runner.{Runner}
use Rattle.wm_run.specs.Refusal.{IsFirstRefused}
use Rattle.wm_run.specs.Runner.{runner_state}
use Rattle.wm_run.specs.Scripted.{Begins}

-- a thread of the module that begins with this start, at the start of its function
pub record IsLaunched (m : Module) (start : Start) (runner : Runner) : Type 0 where
  pub program : runner.thread.module ≡ m
  pub begins : Begins m start (runner_state runner)
  pub at_start : IsAtStart runner.thread

-- a thread for each start
pub record AreLaunched (m : Module) (starts : List Start) (runners : List Runner) : Type 0 where
  pub count : length runners ≡ length starts
  pub each : (t : ℕ) (start : Start) (runner : Runner) → slice_get starts t ≡ Some start → slice_get runners t ≡ Some runner → IsLaunched m start runner

-- the first thread that doesn't start, and why
abbrev pub IsLaunchFault : Module → List Start → RunFault → Type 0
IsLaunchFault m starts (run.Start t fault) = IsFirstRefused m starts t fault
IsLaunchFault m starts run.OutOfMemory = ⊤
IsLaunchFault m starts (run.Plan fault) = ⊥
IsLaunchFault m starts (run.Split t) = ⊥
IsLaunchFault m starts (run.Ends t) = ⊥
IsLaunchFault m starts run.Foreign = ⊥
