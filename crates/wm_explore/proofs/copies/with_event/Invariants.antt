use Rattle.std.proofs.Common.{◌≡◌, take}
use Rattle.wm_explore.specs.States.{extended}
use Rattle.wm_explore.proofs.copies.with_event.Given as goal

abbrev pub invariant-loop-number : goal.invariant-loop-number
invariant-loop-number l = record {
  copied : l.copy ≡ take l.number (extended l.thread l.event l.log);
}
