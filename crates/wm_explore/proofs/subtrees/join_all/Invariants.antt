-- The trees that were taken are joined.
use Rattle.std.proofs.Common.{◌≡◌, ◌++◌}
use Rattle.std.specs.Vec.Iter.{into_iter_items}
use Rattle.wm_explore.specs.Subtrees.{JoinsAll}
use Rattle.wm_explore.proofs.subtrees.join_all.Given as goal

abbrev pub invariant-loop-tree : goal.invariant-loop-tree
invariant-loop-tree l = JoinsAll l.fn.progress l.yielded l.progress × (l.yielded ++ into_iter_items l.tree-iterator ≡ l.fn.trees.items)
