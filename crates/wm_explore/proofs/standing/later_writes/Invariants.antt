-- What was found so far.
use Rattle.wm_explore.specs.Standing.{AreLaterWrites}
use Rattle.wm_explore.proofs.standing.later_writes.Given as goal

abbrev pub invariant-loop-place : goal.invariant-loop-place
invariant-loop-place l = record {
  each : AreLaterWrites l.state l.next l.source l.later;
}
