use Rattle.std.proofs.Common.{take}
use Rattle.wm_litmus.specs.Counts.{Counts}
use Rattle.wm_litmus.specs.Rounds.{outcomes}
use Rattle.wm_litmus.proofs.table.report.Given as goal

abbrev pub invariant-loop-run : goal.invariant-loop-run
invariant-loop-run l = Counts (outcomes (take l.run-index l.runs)) l.table.counts
