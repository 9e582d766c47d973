-- What was found so far stands before the next event.
use Rattle.wm_explore.specs.Standing.{KeepsBeforeNext}
use Rattle.wm_explore.proofs.standing.with_reads.Given as goal

abbrev pub invariant-loop-place : goal.invariant-loop-place
invariant-loop-place l = record {
  before : KeepsBeforeNext l.state l.next l.fn.order l.all;
}
