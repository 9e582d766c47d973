-- The text has the lines of the first rows.
use Rattle.std.proofs.Common.{◌≡◌, string_bytes, take}
use Rattle.std.specs.List.{flat_map}
use Rattle.wm_litmus.specs.Explore.{outcome_line}
use Rattle.wm_litmus.proofs.explore.outcome_lines.Given as goal

abbrev pub invariant-loop-row : goal.invariant-loop-row
invariant-loop-row l = string_bytes l.text ≡ flat_map outcome_line (take l.row-index l.rows)
