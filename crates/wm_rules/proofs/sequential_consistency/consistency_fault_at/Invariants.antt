-- The cases so far have no fault.
use Rattle.std.proofs.Common.{◌+◌, [], ◌∷◌}
use Rattle.wm_event.specs.Faults.{Breaks, rank}
use Rattle.wm_event.specs.LoggedRun.{execution}
use Rattle.wm_event.proofs.Scan.{NoneBelow}
use Rattle.wm_rules.proofs.sequential_consistency.consistency_fault_at.Given as goal

abbrev pub invariant-loop-case : goal.invariant-loop-case
invariant-loop-case l = NoneBelow (rank (execution l.relation)) (Breaks (execution l.relation)) (5 ∷ l.event.thread ∷ l.event.number ∷ l.byte ∷ []) (l.case-index + 1)
