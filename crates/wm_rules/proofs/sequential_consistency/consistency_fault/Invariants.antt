-- The bytes so far have no fault.
use Rattle.std.proofs.Common.{[], ◌∷◌}
use Rattle.wm_event.specs.Faults.{Breaks, rank}
use Rattle.wm_event.specs.LoggedRun.{execution}
use Rattle.wm_event.proofs.Scan.{NoneBelow}
use Rattle.wm_rules.proofs.sequential_consistency.consistency_fault.Given as goal

abbrev pub invariant-loop-byte : goal.invariant-loop-byte
invariant-loop-byte l = NoneBelow (rank (execution l.relation)) (Breaks (execution l.relation)) (5 ∷ l.event.thread ∷ l.event.number ∷ []) l.byte
