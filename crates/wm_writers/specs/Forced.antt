-- Faults that no other witness mends.
use Rattle.std.specs.Prelude.{◌≡◌, ℕ, List, Option, None, Some, All, IsTrue}
use Rattle.wm_event.specs.declared.event.Event.{Event}
use Rattle.wm_event.specs.declared.event.EventId.{EventId}
use Rattle.wm_event.specs.declared.rule.RuleFault.{RuleFault}
use Rattle.wm_event.specs.declared.witness.Witness.{Witness}
use Rattle.wm_event.specs.Execution.{Execution, ReadsFrom}
use Rattle.wm_event.specs.Faults.{Breaks}
use Rattle.wm_event.specs.Log.{event_in}
use Rattle.wm_event.specs.LoggedRun.{LoggedRun, execution}
use Rattle.wm_event.specs.Rules.{IsValid}
use Rattle.wm_event.specs.Shape.{IsWellShaped}
use Rattle.wm_hb.specs.declared.fault_chain.FaultChain.{FaultChain}
use Rattle.wm_writers.specs.Fits.{fits}
use Rattle.wm_writers.specs.Lasting.{Lasts}
use Rattle.wm_writers.specs.Needs.{needs}
use Rattle.wm_writers.specs.declared.need.Need.{Need}

-- byte k is the named one; if none is named, it is any byte
abbrev pub IsNamed : Option ℕ → ℕ → Type 0
IsNamed None k = Unit {0}
IsNamed (Some byte) k = k ≡ byte

-- the bytes that satisfy a need: those that its read takes from its writer, or only the one that it names
abbrev pub Meets : Execution → Need → ℕ → Type 0
Meets x need k = ReadsFrom x need.reader k need.writer × IsNamed need.byte k

-- no id but its writer fits byte k of the read r, which is the event e
abbrev pub FitsOnly : LoggedRun → Event → ℕ → EventId → Type 0
FitsOnly run e k w = (v : EventId) → IsTrue (fits run.log run.initial e k v) → v ≡ w

-- the read takes a byte that only its writer fits
pub record IsForced (run : LoggedRun) (need : Need) : Type 0 where
  pub read : Event
  pub is_read : event_in run.log need.reader ≡ Some read
  pub byte : ℕ
  pub meets : Meets (execution run) need byte
  pub only : FitsOnly run read byte need.writer

-- everything that the fault needs, given these chains, is forced
abbrev pub IsForcedFault : LoggedRun → RuleFault → List FaultChain → Type 0
IsForcedFault run f chains = All (IsForced run) (needs f chains)

-- the same log and initial memory with another witness: other writers, and another order
abbrev pub with_witness : LoggedRun → Witness → LoggedRun
with_witness run witness = record { log = run.log; witness = witness; initial = run.initial }

-- whatever the witness, the log and the initial memory aren't a valid execution
abbrev pub IsNeverValid : LoggedRun → Type 0
IsNeverValid run = (witness : Witness) → IsWellShaped (with_witness run witness) → IsValid (execution (with_witness run witness)) → ⊥

-- no witness mends a forced fault that no order mends
abbrev pub ForcedFaultStays : Type 0
ForcedFaultStays = (run : LoggedRun) (f : RuleFault) (chains : List FaultChain) → IsWellShaped run
    → Breaks (execution run) f → Lasts (execution run) f chains → IsForcedFault run f chains → IsNeverValid run
