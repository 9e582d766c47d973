use Rattle.std.proofs.Common.{[], ◌∷◌}
use Rattle.wm_event.specs.Faults.{Breaks, rank}
use Rattle.wm_rules.specs.Late.{late_number}
use Rattle.wm_event.proofs.Scan.{NoneBelow}
use Rattle.wm_event.specs.LoggedRun.{execution}
use Rattle.wm_rules.proofs.scan.fault_in_thread.Given as goal

-- the events so far have no fault
abbrev pub invariant-loop-event : goal.invariant-loop-event
invariant-loop-event l = NoneBelow (rank (execution l.relation)) (Breaks (execution l.relation)) (late_number l.rule ∷ l.thread ∷ []) l.event-index
