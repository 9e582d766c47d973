use Rattle.std.proofs.Common.{◌≤◌, length}
use Rattle.wm_refusal.proofs.document_part.without_back.Given as goal

abbrev pub invariant-loop-position : goal.invariant-loop-position
invariant-loop-position l = record { inside : l.end ≤ length l.bytes }
