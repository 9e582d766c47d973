use Rattle.std.proofs.Common.{◌-◌, ◌<◌, ◌≤◌, ℕ}
use Rattle.wm_races.proofs.near.turn_near.Given as goal

-- below `low` the items are early, from `high` on they are late
abbrev pub invariant-loop-low : goal.invariant-loop-low
invariant-loop-low g l = record {
  order : l.low ≤ l.high;
  bound : l.high ≤ l.count;
  first : (i : ℕ) → i < l.low → g.T.Turning.early l.row i;
  rest : (i : ℕ) → l.high ≤ i → i < l.count → g.T.Turning.late l.row i;
}

abbrev pub decreases-loop-low : goal.decreases-loop-low
decreases-loop-low g l = l.high - l.low
