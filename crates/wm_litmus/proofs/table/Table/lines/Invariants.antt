use Rattle.std.proofs.Common.{◌≡◌, map, string_bytes}
use Rattle.std.specs.List.{flat_map}
use Rattle.std.specs.Map.Iter.{deref_pair}
use Rattle.wm_litmus.specs.Counts.{row_of}
use Rattle.wm_litmus.specs.Table.{row_text}
use Rattle.wm_litmus.proofs.table.Table.lines.Given as goal

abbrev pub invariant-loop-outcome : goal.invariant-loop-outcome
invariant-loop-outcome l = string_bytes l.text ≡ flat_map row_text (map row_of (map deref_pair l.yielded))
