-- For each execution one is covered.
use Rattle.wm_event.specs.LoggedRun.{LoggedRun, execution}
use Rattle.wm_explore.specs.Executions.{IsCausal, IsExecutionOf}
use Rattle.wm_explore.specs.Search.{CoversFor, IsProgress}
use Rattle.wm_explore.proofs.search.explore.Given as goal

abbrev pub invariant-loop : goal.invariant-loop
invariant-loop g l = record {
  progress : IsProgress l.module l.starts l.progress;
  covers : (x : LoggedRun) → IsExecutionOf l.module l.starts x → IsCausal (execution x) → CoversFor l.module l.starts l.limits.events l.progress x;
}
