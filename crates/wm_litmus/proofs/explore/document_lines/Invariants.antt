-- The text has the lines of the first rows.
use Rattle.std.proofs.Common.{◌≡◌, string_bytes, take}
use Rattle.std.specs.List.{flat_map}
use Rattle.wm_litmus.specs.Explore.{document_line}
use Rattle.wm_litmus.proofs.explore.document_lines.Given as goal

abbrev pub invariant-loop-row : goal.invariant-loop-row
invariant-loop-row l = string_bytes l.text ≡ flat_map document_line (take l.row-index l.rows)
