-- What ECMA-262 says of runs without a data race.
use Rattle.std.specs.Prelude.{◌↔◌, ◌<◌, length}
use Rattle.wm_event.specs.declared.event.EventKey.{EventKey}
use Rattle.wm_event.specs.LoggedRun.{LoggedRun, execution}
use Rattle.wm_event.specs.Rules.{KeepsWrittenValues}
use Rattle.wm_event.specs.Shape.{IsWellShaped}
use Rattle.wm_standard.specs.Transcribed.{AreOperations, Operation, candidate_of, order_of}
use Rattle.wm_standard.specs.SharedEvents.{HaveOverlappingRanges}
use Rattle.wm_standard.specs.ValidExecution.{IsValidExecution}
use Rattle.wm_sequential.specs.Sequential.{HasNoRace, IsSequential}

-- a run without a data race is a valid execution of ECMA-262, with the order of its witness, exactly if it is sequential in
-- that order and its bytes were written as they were read
abbrev pub StandardOfRaceFreeRuns : Type 0
StandardOfRaceFreeRuns = (run : LoggedRun) (ops : EventKey → Operation) → IsWellShaped run → AreOperations run ops → 8 < length run.initial → HasNoRace (execution run)
    → IsValidExecution HaveOverlappingRanges (candidate_of run ops) (order_of run) ↔ (KeepsWrittenValues (execution run) × IsSequential (execution run))
