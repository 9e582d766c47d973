-- Runs without which a premise of the agreement could be dropped.
use Rattle.std.specs.Prelude.{◌<◌, length}
use Rattle.wm_event.specs.declared.event.EventKey.{EventKey}
use Rattle.wm_event.specs.LoggedRun.{LoggedRun, execution}
use Rattle.wm_event.specs.Rules.{IsValid}
use Rattle.wm_event.specs.Shape.{IsWellShaped}
use Rattle.wm_standard.specs.SharedEvents.{HaveOverlappingRanges}
use Rattle.wm_standard.specs.ValidExecution.{IsValidExecution}
use Rattle.wm_standard.specs.Transcribed.{AreOperations, Operation, candidate_of, order_of}
use Rattle.wm_standard.specs.Agreement.{IsStandardExecution, IsValidInSomeOrder, ValuesEnd}

-- the agreement without the premise that values end
abbrev pub AgreesWithoutEnds : Type 0
AgreesWithoutEnds = (run : LoggedRun) (ops : EventKey → Operation) → IsWellShaped run → AreOperations run ops → 8 < length run.initial
    → IsValid (execution run) → IsValidExecution HaveOverlappingRanges (candidate_of run ops) (order_of run)

-- the agreement of a given order with any memory-order
abbrev pub AgreesWithoutOrder : Type 0
AgreesWithoutOrder = (run : LoggedRun) (ops : EventKey → Operation) → IsWellShaped run → AreOperations run ops → 8 < length run.initial
    → IsStandardExecution run ops → IsValid (execution run)

-- two updates that each take the value 42 from the other: V1 to V5 allow them, and ECMA-262 doesn't, whatever their operations
pub record ValuesOutOfThinAir : Type 0 where
  pub run : LoggedRun
  pub shaped : IsWellShaped run
  pub large : 8 < length run.initial
  pub valid : IsValid (execution run)
  pub go_round : ValuesEnd (execution run) → ⊥
  pub not_standard : (ops : EventKey → Operation) → AreOperations run ops → IsStandardExecution run ops → ⊥

-- a run that is valid in some order, and not in its own
pub record OrderIsNeeded : Type 0 where
  pub run : LoggedRun
  pub shaped : IsWellShaped run
  pub large : 8 < length run.initial
  pub values_end : ValuesEnd (execution run)
  pub in_some_order : IsValidInSomeOrder run
  pub not_valid : IsValid (execution run) → ⊥

-- no law: any operations fit the updates of a log
abbrev pub AnyOperationsFit : Type 0
AnyOperationsFit = (run : LoggedRun) (ops : EventKey → Operation) → AreOperations run ops
