use Rattle.std.proofs.Common.{◌≡◌, []}
use Rattle.wm_run.proofs.rounds.drains.drainer.Given as goal

abbrev pub invariant-loop-number : goal.invariant-loop-number
invariant-loop-number g l = record {
  events : l.calls.events ≡ [];
  drains : l.calls.drains ≡ l.number;
}
