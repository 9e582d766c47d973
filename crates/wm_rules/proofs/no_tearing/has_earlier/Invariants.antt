-- None of the earlier bytes so far has that writer.
use Rattle.std.proofs.Common.{◌≢◌, ℕ, ◌<◌, Some, slice_get}
use Rattle.wm_rules.proofs.no_tearing.has_earlier.Given as goal

abbrev pub invariant-loop-earlier : goal.invariant-loop-earlier
invariant-loop-earlier l = (j : ℕ) → j < l.earlier → j < l.byte → slice_get l.writer-items j ≢ Some l.id
