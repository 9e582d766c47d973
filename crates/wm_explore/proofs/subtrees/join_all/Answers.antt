use Rattle.std.proofs.Common.{◌++◌, ◌∷◌, [], sym, ap, append_assoc, ◌∙◌}
use Rattle.wm_explore.proofs.Beside.{joins_more}
use Rattle.wm_explore.proofs.subtrees.join_all.Goals as goal

pub loop-tree-preserved : goal.loop-tree-preserved
loop-tree-preserved c = (
  joins_more c.args.progress.now c.loop-tree.yielded c.loop-tree.progress c.in-Some.tree c.join.new.self c.loop-tree.invariant.0 c.in_ok-join.ensures,
  append_assoc c.loop-tree.yielded (c.in-Some.tree ∷ []) _ ∙ ap (λ left. c.loop-tree.yielded ++ left) (sym c.in-Some.ensures.steps.0) ∙ c.loop-tree.invariant.1,
)
