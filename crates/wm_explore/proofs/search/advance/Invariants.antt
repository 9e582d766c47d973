-- What was covered at the beginning still is, or a shorter execution stands for it; and what is kept is right.
use Rattle.wm_explore.specs.Cache.{Recalls}
use Rattle.wm_explore.specs.Subtrees.{Advances}
use Rattle.wm_explore.proofs.search.advance.Given as goal

abbrev pub invariant-loop-graphs : goal.invariant-loop-graphs
invariant-loop-graphs l = record {
  so_far : Advances l.module l.starts l.limits.events l.fn.progress l.progress;
  recalls : Recalls l.module l.starts l.cache;
}
