use Rattle.wm_event.specs.LoggedRun.{execution}
use Rattle.wm_rules.specs.Earliest.{FindsBelow}
use Rattle.wm_rules.specs.Others.{WritesBetween}
use Rattle.wm_rules.proofs.by_thread.earliest_between.Given as goal

-- the earliest of the threads so far
abbrev pub invariant-loop-thread : goal.invariant-loop-thread
invariant-loop-thread l = FindsBelow (execution l.relation) l.thread (WritesBetween l.relation l.event l.byte l.writer) l.earliest
