-- Each execution so far has its row.
use Rattle.std.proofs.Common.{take}
use Rattle.std.specs.List.{AllZip}
use Rattle.wm_litmus.specs.Explore.{IsRowOf}
use Rattle.wm_litmus.proofs.explore.outcome_rows.Given as goal

abbrev pub invariant-loop-each : goal.invariant-loop-each
invariant-loop-each l = AllZip IsRowOf (take l.each-index l.finished) l.rows.items
