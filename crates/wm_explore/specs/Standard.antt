-- Causal executions, and ECMA-262.
use Rattle.std.specs.Prelude.{ℕ, ◌<◌, List, length}
use Rattle.wm_ast.specs.declared.module.Module.{Module}
use Rattle.wm_event.specs.LoggedRun.{LoggedRun, execution}
use Rattle.wm_event.specs.Rules.{IsValid}
use Rattle.wm_event.specs.Shape.{IsWellShaped}
use Rattle.wm_event.specs.declared.event.EventKey.{EventKey}
use Rattle.wm_event.specs.declared.log.Start.{Start}
use Rattle.wm_explore.specs.Executions.{IsCausal}
use Rattle.wm_explore.specs.Judging.{run_with}
use Rattle.wm_explore.specs.Search.{IsFound}
use Rattle.wm_explore.specs.declared.exploration.Finished.{Finished}
use Rattle.wm_standard.specs.SharedEvents.{HaveOverlappingRanges}
use Rattle.wm_standard.specs.Transcribed.{AreOperations, Operation, candidate_of, order_of}
use Rattle.wm_standard.specs.ValidExecution.{IsValidExecution}
use Rattle.wm_valid.specs.Valid.{IsInit}

-- a valid execution of ECMA-262, in the order of the witness
abbrev pub IsStandard : LoggedRun → (EventKey → Operation) → Type 0
IsStandard run ops = IsValidExecution HaveOverlappingRanges (candidate_of run ops) (order_of run)

-- what is valid and causal is valid by ECMA-262, in a memory of more than 8 bytes
abbrev pub CausalIsStandard : Type 0
CausalIsStandard = (run : LoggedRun) (ops : EventKey → Operation) → IsWellShaped run → AreOperations run ops → 8 < length run.initial → IsCausal (execution run) → IsValid (execution run) → IsStandard run ops

-- so each execution that an exploration finds is, with any operations that fit its updates
abbrev pub ExploredIsStandard : Type 0
ExploredIsStandard = (m : Module) (starts : List Start) (f : Finished) (initial : List ℕ) (ops : EventKey → Operation) → IsFound m starts f → IsInit m initial → AreOperations (run_with f.log initial f.witness) ops
    → 8 < length initial → IsStandard (run_with f.log initial f.witness) ops

-- a statement that doesn't hold: updates that are not causal may take values out of thin air
abbrev pub ValidIsStandard : Type 0
ValidIsStandard = (run : LoggedRun) (ops : EventKey → Operation) → IsWellShaped run → AreOperations run ops → 8 < length run.initial → IsValid (execution run) → IsStandard run ops
