-- The rules so far have no fault.
use Rattle.std.proofs.Common.{◌+◌, []}
use Rattle.wm_event.specs.Faults.{Breaks, rank}
use Rattle.wm_event.specs.LoggedRun.{execution}
use Rattle.wm_event.proofs.Scan.{NoneBelow}
use Rattle.wm_rules.proofs.sequential.first_fault.Given as goal

abbrev pub invariant-loop-rule : goal.invariant-loop-rule
invariant-loop-rule l = NoneBelow (rank (execution l.relation)) (Breaks (execution l.relation)) [] (l.rule-index + 3)
