use Rattle.std.proofs.Common.{◌-◌, ◌≡◌, ◌≤◌, length}
use Rattle.wm_machine.specs.State.{config_of}
use Rattle.wm_run.specs.Reached.{LeadsTo}
use Rattle.wm_run.proofs.rounds.worker.run_until_stop.Given as goal

abbrev pub invariant-loop-local : goal.invariant-loop-local
invariant-loop-local g l = record {
  within : l.made ≤ l.steps;
  program : l.running.module ≡ l.fn.running.module;
  few : length l.calls.events ≤ l.made;
  undrained : l.calls.drains ≡ l.fn.calls.drains;
  leads : LeadsTo l.running.module l.thread (config_of l.fn.running) l.calls.events l.made (config_of l.running);
}

abbrev pub decreases-loop-local : goal.decreases-loop-local
decreases-loop-local g l = l.steps - l.made
