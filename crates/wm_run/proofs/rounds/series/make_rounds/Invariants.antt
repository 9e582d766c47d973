use Rattle.std.proofs.Common.{◌≡◌}
use Rattle.wm_run.proofs.rounds.series.make_rounds.Given as goal

abbrev pub invariant-loop-number : goal.invariant-loop-number
invariant-loop-number g l = record {
  same : g.T.Taker.task l.taker ≡ g.T.Taker.task l.fn.taker;
  many : g.T.Taker.may_make l.taker l.count;
  taken : g.T.Taker.has_taken l.taker l.number;
}
