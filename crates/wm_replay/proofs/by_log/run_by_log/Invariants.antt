use Rattle.std.proofs.Common.{◌-◌, ◌≡◌, ◌≤◌}
use Rattle.wm_replay.specs.Positions.{HasCome}
use Rattle.wm_replay.proofs.by_log.run_by_log.Given as goal

abbrev pub invariant-loop-local : goal.invariant-loop-local
invariant-loop-local l = record {
  within : l.progress.steps ≤ l.limit;
  «module» : l.thread.module ≡ l.initial.thread.module;
  come : HasCome l.initial.thread.module l.number l.stated l.thread l.progress.steps l.progress.events l.progress.positions.items;
}

abbrev pub decreases-loop-local : goal.decreases-loop-local
decreases-loop-local l = l.limit - l.progress.steps
