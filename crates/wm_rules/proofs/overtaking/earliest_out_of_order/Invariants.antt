use Rattle.wm_event.specs.LoggedRun.{execution}
use Rattle.wm_rules.specs.Earliest.{FindsBelow}
use Rattle.wm_rules.specs.Others.{IsOutOfOrder}
use Rattle.wm_rules.specs.Cases.{overtaking_number}
use Rattle.wm_rules.proofs.overtaking.earliest_out_of_order.Given as goal

-- the earliest of the threads so far
abbrev pub invariant-loop-thread : goal.invariant-loop-thread
invariant-loop-thread l = FindsBelow (execution l.relation) l.thread (IsOutOfOrder l.relation l.event l.writer (overtaking_number l.case)) l.earliest
