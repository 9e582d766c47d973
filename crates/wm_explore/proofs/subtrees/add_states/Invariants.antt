-- The states that were taken have been added.
use Rattle.std.proofs.Common.{◌≡◌, ◌++◌}
use Rattle.std.specs.Vec.Iter.{into_iter_items}
use Rattle.wm_explore.proofs.subtrees.add_states.Given as goal

abbrev pub invariant-loop-state : goal.invariant-loop-state
invariant-loop-state l = (l.work.items ≡ l.fn.work.items ++ l.yielded) × (l.yielded ++ into_iter_items l.state-iterator ≡ l.fn.states.items)
