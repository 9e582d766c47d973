-- The result of a worker for its thread.
use Rattle.std.specs.Prelude.{◌≡◌, ℕ, ◌≤◌, Bool, false, Result, Ok, Err, ⊤}
use Rattle.wm_ast.specs.declared.module.Module.{Module}
use Rattle.wm_event.specs.declared.log.End.TheVariants.{Cut}
use Rattle.wm_event.specs.declared.log.Start.{Start}
use Rattle.wm_logfile.specs.Document.{EndFits}
use Rattle.wm_machine.specs.Start.{started}
use Rattle.wm_run.specs.declared.rounds.ended.Stop.{Stop}
use Rattle.wm_run.specs.declared.rounds.ended.Stop.TheVariants.{Own, Gate}
use Rattle.wm_run.specs.declared.rounds.ended.ThreadEnd.{ThreadEnd}
use Rattle.wm_run.specs.declared.fault.RunFault.{RunFault}
use Rattle.wm_run.specs.declared.fault.RunFault.TheVariants as run

-- a run of this thread and start of at most this number of steps: unless it was stopped, it is cut only after all of
-- them; the gate stops it only if the gate isn't open; its result has 64 bits; it drained no store
pub record IsEndOf (is_open : Bool) (m : Module) (thread : ℕ) (start : Start) (steps : ℕ) (e : ThreadEnd) : Type 0 where
  pub of_module : e.program.value ≡ m
  pub of_thread : e.thread ≡ thread
  pub of_start : e.start ≡ start
  pub within : e.steps ≤ steps
  pub whole : e.stop ≡ Own → e.end ≡ Cut → e.steps ≡ steps
  pub held : e.stop ≡ Gate → is_open ≡ false
  pub fits : EndFits e.end
  pub undrained : e.calls.drains ≡ 0

-- what a worker knows about its thread
abbrev pub IsGiven : Module → ℕ → Start → ℕ → Stop → ThreadEnd → Type 0
IsGiven m thread start steps stop e = (e.program.value ≡ m) × (e.thread ≡ thread) × (e.start ≡ start) × (e.steps ≡ steps) × (e.stop ≡ stop)

-- the fault occurred: the thread doesn't start, for this reason, or an allocation failed
abbrev pub IsWorkFault : Module → ℕ → Start → RunFault → Type 0
IsWorkFault m thread start (run.Start t fault) = (t ≡ thread) × (started m start.name start.args ≡ Err fault)
IsWorkFault m thread start run.OutOfMemory = ⊤
IsWorkFault m thread start (run.Plan fault) = ⊥
IsWorkFault m thread start (run.Split t) = ⊥
IsWorkFault m thread start (run.Ends t) = ⊥
IsWorkFault m thread start run.Foreign = ⊥

abbrev pub IsWorkOf : Bool → Module → ℕ → Start → ℕ → Result ThreadEnd RunFault → Type 0
IsWorkOf is_open m thread start steps (Ok e) = IsEndOf is_open m thread start steps e
IsWorkOf is_open m thread start steps (Err fault) = IsWorkFault m thread start fault
