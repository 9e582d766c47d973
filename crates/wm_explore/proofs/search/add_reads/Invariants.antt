-- The values before the one that is next have been read.
use Rattle.std.proofs.Common.{List}
use Rattle.wm_event.specs.declared.log.Start.{Start}
use Rattle.wm_explore.specs.Search.{IsProgress}
use Rattle.wm_explore.specs.States.{IsState}
use Rattle.wm_explore.proofs.ReadsOf.{ReadSoFar}
use Rattle.wm_explore.proofs.search.add_reads.Given as goal

abbrev pub invariant-loop-place : goal.invariant-loop-place
invariant-loop-place l = record {
  so_far : (starts : List Start) → IsState starts l.state → IsProgress l.module starts l.fn.progress → ReadSoFar l.module starts l.limits.events l.state l.thread l.op l.fn.progress l.progress l.values l.place;
}
