-- The executions that were taken are listed.
use Rattle.std.proofs.Common.{◌≡◌, ◌++◌}
use Rattle.std.specs.Vec.Iter.{into_iter_items}
use Rattle.wm_explore.specs.Subtrees.{TakesIn}
use Rattle.wm_explore.proofs.subtrees.add_finished.Given as goal

abbrev pub invariant-loop-other : goal.invariant-loop-other
invariant-loop-other l = TakesIn l.fn.finished.items l.yielded l.finished.items × (l.yielded ++ into_iter_items l.other-iterator ≡ l.fn.others.items)
