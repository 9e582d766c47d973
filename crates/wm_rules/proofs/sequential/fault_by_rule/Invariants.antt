use Rattle.std.proofs.Common.{[], ◌∷◌}
use Rattle.wm_event.specs.Faults.{Breaks, rank}
use Rattle.wm_rules.specs.Late.{late_number}
use Rattle.wm_event.proofs.Scan.{NoneBelow}
use Rattle.wm_event.specs.LoggedRun.{execution}
use Rattle.wm_rules.proofs.sequential.fault_by_rule.Given as goal

-- the threads so far have no fault
abbrev pub invariant-loop-thread : goal.invariant-loop-thread
invariant-loop-thread l = NoneBelow (rank (execution l.relation)) (Breaks (execution l.relation)) (late_number l.rule ∷ []) l.thread
