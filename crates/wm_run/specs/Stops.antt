-- Why a worker stopped.
use Rattle.std.specs.Prelude.{◌≡◌, ℕ, ◌≤◌, ◌⊎◌, Bool, List, Some, true, false}
use Rattle.wm_ast.specs.declared.module.Module.{Module}
use Rattle.wm_event.specs.declared.event.Event.{Event}
use Rattle.wm_event.specs.declared.log.Start.{Start}
use Rattle.wm_event.specs.declared.op.OpFields.{OpFields}
use Rattle.wm_machine.specs.Reach.{HasEnded}
use Rattle.wm_machine.specs.State.{State, config_of}
use Rattle.wm_machine.specs.Step.{access_of, step}
use Rattle.wm_machine.specs.Term.{Config}
use Rattle.wm_recorder.specs.declared.access_fault.AccessFault.{AccessFault}
use Rattle.wm_run.specs.declared.rounds.ended.Stop.{Stop}
use Rattle.wm_run.specs.declared.rounds.ended.Stop.TheVariants.{Own, Gate, Memory}
use Rattle.wm_run.specs.Reached.{HasRun, LeadsTo, is_before_access}

abbrev pub is_own : Stop → Bool
is_own Own = true
is_own Gate = false
is_own Memory = false

-- why a thread in this configuration makes no step, under a gate that is open or not
abbrev pub StopsFor : Bool → Module → Config → Stop → Type 0
StopsFor is_open m c Own = HasEnded c
StopsFor is_open m c Gate = (is_before_access m c ≡ true) × (is_open ≡ false)
StopsFor is_open m c Memory = is_before_access m c ≡ true

-- the thread stopped for this reason, unchanged, without a further event
abbrev pub StopsAs : Bool → State → List Event → State → List Event → Stop → Type 0
StopsAs is_open old events new more stop = (more ≡ events) × (new ≡ old) × StopsFor is_open old.module (config_of old) stop

-- thread k made this number of steps, at most `limit`, with these events, and stopped there: it made all of them, or it
-- stopped for this reason
pub record HasStopped (is_open : Bool) (k : ℕ) (old new : State) (events : List Event) (limit made : ℕ) (stop : Stop) : Type 0 where
  pub leads : LeadsTo old.module k (config_of old) events made (config_of new)
  pub within : made ≤ limit
  pub stops : ((stop ≡ Own) × (made ≡ limit)) ⊎ StopsFor is_open old.module (config_of new) stop

-- the memory refused the next access of thread k for a fault: what it says of a refusal holds of these
abbrev pub IsRefused : (ℕ → OpFields → AccessFault → Type 0) → Module → ℕ → Config → Type 0
IsRefused refuses m k c = (op : OpFields) × (fault : AccessFault) × (access_of (step m 0 c) ≡ Some op) × refuses k op fault

-- the same after n steps from its start, which made these events
abbrev pub IsRefusedAfter : (ℕ → OpFields → AccessFault → Type 0) → Module → ℕ → Start → List Event → ℕ → Type 0
IsRefusedAfter refuses m k start events n = (c : Config) × HasRun m k start events n c × IsRefused refuses m k c
