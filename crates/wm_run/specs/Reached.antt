-- The state of a thread after some of its steps.
use Rattle.std.specs.Prelude.{◌≡◌, ◌+◌, ℕ, List, ◌++◌, Bool, true, false, Result, Ok, Err, Option, Some, None}
use Rattle.wm_ast.specs.declared.module.Module.{Module}
use Rattle.wm_event.specs.declared.event.Event.{Event}
use Rattle.wm_event.specs.declared.log.End.{End}
use Rattle.wm_event.specs.declared.log.Start.{Start}
use Rattle.wm_event.specs.declared.log.ThreadLog.{ThreadLog}
use Rattle.wm_event.specs.declared.op.OpFields.{OpFields}
use Rattle.wm_machine.specs.declared.fault.StartFault.{StartFault}
use Rattle.wm_machine.specs.Run.{Ran, steps}
use Rattle.wm_machine.specs.Start.{started}
use Rattle.wm_machine.specs.State.{State, config_of}
use Rattle.wm_machine.specs.Step.{access_of, step}
use Rattle.wm_machine.specs.Term.{Config}
use Rattle.wm_replay.specs.Replay.{reads_of}

abbrev pub thread_log : Start → End → ℕ → List Event → ThreadLog
thread_log start end steps events = record { start = start; end = end; steps = steps; events = events }

abbrev pub ran_from : Module → ℕ → Result Config StartFault → List ℕ → ℕ → Option Ran
ran_from m k (Err fault) reads n = None
ran_from m k (Ok first) reads n = steps m k first reads n

-- the state of thread k after the steps of its log, on the values that its events read
abbrev pub ran_by : Module → ℕ → ThreadLog → Option Ran
ran_by m k t = ran_from m k (started m t.start.name t.start.args) (reads_of t.events) t.steps

abbrev pub is_access : Option OpFields → Bool
is_access None = false
is_access (Some op) = true

-- the next step from there makes an access, which doesn't depend on the value read
abbrev pub is_before_access : Module → Config → Bool
is_before_access m c = is_access (access_of (step m 0 c))

abbrev pub ran_before_access : Module → Option Ran → Bool
ran_before_access m None = false
ran_before_access m (Some ran) = is_before_access m ran.config

-- after the steps of its log thread k is before an access
abbrev pub stands_before_access : Module → ℕ → ThreadLog → Bool
stands_before_access m k t = ran_before_access m (ran_by m k t)

-- n steps of thread k make these events, on the values that they read, and lead there, whatever values come after
abbrev pub LeadsTo : Module → ℕ → Config → List Event → ℕ → Config → Type 0
LeadsTo m k first events n c =
    (behind : List ℕ) → steps m k first (reads_of events ++ behind) n ≡ Some (record { events = events; config = c; reads = behind })

-- one more step of thread k, with the events so far, whichever steps led there
abbrev pub LeadsOn : ℕ → State → List Event → State → List Event → Type 0
LeadsOn k old events new more =
    (first : Config) (n : ℕ) → LeadsTo old.module k first events n (config_of old) → LeadsTo old.module k first more (n + 1) (config_of new)

-- the same from a valid start
abbrev pub HasRun : Module → ℕ → Start → List Event → ℕ → Config → Type 0
HasRun m k start events n c = (first : Config) × (started m start.name start.args ≡ Ok first) × LeadsTo m k first events n c
