-- A run of a thread on the values that it reads.
use Rattle.std.specs.Prelude.{ℕ, zero, suc, ◌*◌, ◌^◌, List, [], ◌∷◌, ◌++◌, length, Bool, true, false, Result, Ok, Err, Option, Some, None, nat_lt, if◌then◌else◌}
use Rattle.wm_access.specs.AccessWidth.{bytes_of}
use Rattle.wm_ast.specs.declared.module.Module.{Module}
use Rattle.wm_event.specs.declared.event.Event.{Event}
use Rattle.wm_event.specs.declared.log.End.{End}
use Rattle.wm_event.specs.declared.log.End.TheVariants.{Cut}
use Rattle.wm_event.specs.declared.op.OpFields.{OpFields}
use Rattle.wm_event.specs.Op.{kind_finds, event_made}
use Rattle.wm_machine.specs.declared.fault.StartFault.{StartFault}
use Rattle.wm_machine.specs.Term.{Config, Running, Over, Step, ReducesTo, NoStep}
use Rattle.wm_machine.specs.Step.{step, access_of}
use Rattle.wm_machine.specs.Start.{started}

-- how far a run has come: its events, its configuration, and the values that are still to be read
pub record Ran : Type 0 where
  pub events : List Event
  pub config : Config
  pub reads : List ℕ

-- the value that a step reads, and those after it
pub record Taken : Type 0 where
  pub read : ℕ
  pub others : List ℕ

-- a value that fits its access
abbrev pub take_fitting : OpFields → List ℕ → Option Taken
take_fitting op [] = None
take_fitting op (r ∷ reads) = if nat_lt r (2 ^ (8 * bytes_of op.width)) then Some record { read = r; others = reads } else None

abbrev pub take_where : Bool → OpFields → List ℕ → Option Taken
take_where true op reads = take_fitting op reads
take_where false op reads = Some record { read = 0; others = reads }

-- a value for each access that reads
abbrev pub take_read : Option OpFields → List ℕ → Option Taken
take_read None reads = Some record { read = 0; others = reads }
take_read (Some op) reads = take_where (kind_finds op.kind) op reads

-- the event of a step of this thread, if it has one
abbrev pub noted : ℕ → ℕ → Option OpFields → ℕ → List Event
noted thread number None read = []
noted thread number (Some op) read = event_made record { thread = thread; number = number } op read ∷ []

abbrev pub ran_on : ℕ → Ran → Taken → Step → Option Ran
ran_on thread ran taken NoStep = None
ran_on thread ran taken (ReducesTo made config) =
    Some record { events = ran.events ++ noted thread (length ran.events) made taken.read; config = config; reads = taken.others }

abbrev pub ran_with : Module → ℕ → Ran → Option Taken → Option Ran
ran_with m thread ran None = None
ran_with m thread ran (Some taken) = ran_on thread ran taken (step m taken.read ran.config)

-- one more step; which access it makes doesn't depend on the value read
abbrev pub run_on : Module → ℕ → Ran → Option Ran
run_on m thread ran = ran_with m thread ran (take_read (access_of (step m 0 ran.config)) ran.reads)

abbrev pub and_run_on : Module → ℕ → Option Ran → Option Ran
and_run_on m thread None = None
and_run_on m thread (Some ran) = run_on m thread ran

-- n steps of a thread from a configuration, the reads given in order
abbrev pub steps : Module → ℕ → Config → List ℕ → ℕ → Option Ran
steps m thread config reads zero = Some record { events = []; config = config; reads = reads }
steps m thread config reads (suc n) = and_run_on m thread (steps m thread config reads n)

-- how a configuration ends a run: cut if it hasn't ended
abbrev pub end_of : Config → End
end_of (Over end) = end
end_of (Running func vars body) = Cut

-- the result of a run
pub record Outcome : Type 0 where
  pub events : List Event
  pub end : End

abbrev pub outcome_with : List ℕ → Ran → Option Outcome
outcome_with [] ran = Some record { events = ran.events; end = end_of ran.config }
outcome_with (r ∷ reads) ran = None

-- the outcome if all reads were used up
abbrev pub outcome_of : Option Ran → Option Outcome
outcome_of None = None
outcome_of (Some ran) = outcome_with ran.reads ran

abbrev pub run_from : Module → ℕ → Result Config StartFault → List ℕ → ℕ → Option Outcome
run_from m thread (Err fault) reads n = None
run_from m thread (Ok config) reads n = outcome_of (steps m thread config reads n)

-- the events and the end of a thread after exactly n steps. None if the start isn't good, a read is missing, left over
-- or doesn't fit its width, or the thread ends or is stuck before step n
abbrev pub run : Module → ℕ → List ℕ → List ℕ → List ℕ → ℕ → Option Outcome
run m thread name args reads n = run_from m thread (started m name args) reads n
