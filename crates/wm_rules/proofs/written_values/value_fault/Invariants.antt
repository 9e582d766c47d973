use Rattle.std.proofs.Common.{[], ◌∷◌}
use Rattle.wm_event.specs.Faults.{Breaks, rank}
use Rattle.wm_event.proofs.Scan.{NoneBelow}
use Rattle.wm_event.specs.LoggedRun.{execution}
use Rattle.wm_rules.proofs.written_values.value_fault.Given as goal

-- the bytes so far have no fault
abbrev pub invariant-loop-byte : goal.invariant-loop-byte
invariant-loop-byte l = NoneBelow (rank (execution l.candidate)) (Breaks (execution l.candidate)) (1 ∷ l.event.thread ∷ l.event.number ∷ []) l.byte
