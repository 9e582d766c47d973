-- That what one memory records is an execution of ECMA-262.
use Rattle.std.specs.Prelude.{ℕ, ◌<◌, List, All, length}
use Rattle.wm_event.specs.declared.event.EventKey.{EventKey}
use Rattle.wm_event.specs.LoggedRun.{LoggedRun}
use Rattle.wm_memory.specs.declared.history_step.HistoryStep.{HistoryStep}
use Rattle.wm_memory.specs.Visibility.{steps}
use Rattle.wm_memory.specs.Legal.{IsLegal}
use Rattle.wm_memory.specs.Recorded.{Records}
use Rattle.wm_standard.specs.SharedEvents.{HaveCommonBytes, HaveOverlappingRanges}
use Rattle.wm_standard.specs.ValidExecution.{IsValidExecution}
use Rattle.wm_standard.specs.Transcribed.{AreOperations, Operation, candidate_of, order_of}
use Rattle.wm_standard.specs.InitialBytes.{byte_candidate_of, byte_order_of}

-- what a legal history of a memory of more than 8 bytes records is a valid execution, in the order in which it was made
abbrev pub RecordedIsStandard : Type 0
RecordedIsStandard = (threads : ℕ) (initial : List ℕ) (history : List HistoryStep) (run : LoggedRun) (ops : EventKey → Operation) → All (λ b. b < 256) initial
    → IsLegal threads initial history → Records threads initial (steps initial history) run → AreOperations run ops → 8 < length initial
    → IsValidExecution HaveOverlappingRanges (candidate_of run ops) (order_of run)

-- the same with an Init event for each byte
abbrev pub RecordedIsStandardByBytes : Type 0
RecordedIsStandardByBytes = (threads : ℕ) (initial : List ℕ) (history : List HistoryStep) (run : LoggedRun) (ops : EventKey → Operation) → All (λ b. b < 256) initial
    → IsLegal threads initial history → Records threads initial (steps initial history) run → AreOperations run ops → 8 < length initial
    → IsValidExecution HaveCommonBytes (byte_candidate_of run ops) (byte_order_of run)

-- a log has operations that fit its updates: each may store its operand
abbrev pub HasOperations : Type 0
HasOperations = (run : LoggedRun) → (ops : EventKey → Operation) × AreOperations run ops
