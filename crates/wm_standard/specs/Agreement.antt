-- What is claimed of the rules and ECMA-262, with one Init event that writes the whole memory.
use Rattle.std.specs.Prelude.{◌≡◌, ◌↔◌, ℕ, ◌<◌, List, Bool, Some, IsSome, IsTrue, length}
use Rattle.wm_event.specs.declared.event.Event.{Event}
use Rattle.wm_event.specs.declared.event.EventKey.{EventKey}
use Rattle.wm_event.specs.declared.event.EventKind.TheVariants.{Update}
use Rattle.wm_event.specs.declared.event.EventId.{EventId}
use Rattle.wm_event.specs.declared.event.EventId.TheVariants.{At}
use Rattle.wm_event.specs.Execution.{Execution, ReadsFrom}
use Rattle.wm_event.specs.LoggedRun.{LoggedRun, execution}
use Rattle.wm_event.specs.Rules.{IsValid}
use Rattle.wm_event.specs.Shape.{IsWellShaped}
use Rattle.wm_standard.specs.SharedEvents.{HaveOverlappingRanges}
use Rattle.wm_standard.specs.ValidExecution.{IsValidExecution}
use Rattle.wm_standard.specs.Transcribed.{AreOperations, Operation, candidate_of, order_of}

-- each chain of updates that begins with r, each of which reads a byte from the next, ends
pub data Ends (x : Execution) : EventKey → Type 0 where
  ends : {r : EventKey} → ((k : ℕ) (u : EventKey) (f : Event) → ReadsFrom x r k (At u) → x.event_of u ≡ Some f → f.kind ≡ Update → Ends x u) → Ends x r

-- no values go round among updates
abbrev pub ValuesEnd : Execution → Type 0
ValuesEnd x = (r : EventKey) → IsSome (x.event_of r) → Ends x r

-- with a memory larger than any access, a well-shaped run is valid by the rules, and its values end, exactly if it is a
-- valid execution of ECMA-262 with the order of its witness
abbrev pub AgreesWithTheStandard : Type 0
AgreesWithTheStandard = (run : LoggedRun) (ops : EventKey → Operation) → IsWellShaped run → AreOperations run ops → 8 < length run.initial
    → (IsValid (execution run) × ValuesEnd (execution run)) ↔ IsValidExecution HaveOverlappingRanges (candidate_of run ops) (order_of run)

-- the same log and writers in another order
abbrev pub with_order : LoggedRun → List EventKey → LoggedRun
with_order run order = record { log = run.log; witness = record { writers = run.witness.writers; order = order }; initial = run.initial }

-- the rules hold in some order
abbrev pub IsValidInSomeOrder : LoggedRun → Type 0
IsValidInSomeOrder run = (order : List EventKey) × IsWellShaped (with_order run order) × IsValid (execution (with_order run order))

-- a valid execution of ECMA-262, with some memory order
abbrev pub IsStandardExecution : LoggedRun → (EventKey → Operation) → Type 0
IsStandardExecution run ops = (before : EventId → EventId → Bool) × IsValidExecution HaveOverlappingRanges (candidate_of run ops) (λ e d. IsTrue (before e d))

-- the same with the order left open on both sides
abbrev pub AgreesInSomeOrder : Type 0
AgreesInSomeOrder = (run : LoggedRun) (ops : EventKey → Operation) → IsWellShaped run → AreOperations run ops → 8 < length run.initial
    → (IsValidInSomeOrder run × ValuesEnd (execution run)) ↔ IsStandardExecution run ops

-- no update takes a byte from an update that is later in the order
abbrev pub UpdatesLookBack : Execution → Type 0
UpdatesLookBack x = (r u : EventKey) (e f : Event) (k : ℕ) → x.event_of r ≡ Some e → e.kind ≡ Update → ReadsFrom x r k (At u) → x.event_of u ≡ Some f → f.kind ≡ Update
    → x.place_of u < x.place_of r

-- then the values end, and the rules and ECMA-262 agree
abbrev pub AgreesLookingBack : Type 0
AgreesLookingBack = (run : LoggedRun) (ops : EventKey → Operation) → IsWellShaped run → AreOperations run ops → 8 < length run.initial → UpdatesLookBack (execution run)
    → IsValid (execution run) ↔ IsValidExecution HaveOverlappingRanges (candidate_of run ops) (order_of run)
