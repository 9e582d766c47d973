use Rattle.std.proofs.Common.{◌≡◌, ◌+◌, ◌≤◌, ◌++◌, map, Some, vec_len, vec_items, vec_capacity}
use Rattle.std.specs.Vec.Iter.{into_iter_items, into_iter_len}
use Rattle.wm_run.proofs.rounds.board.ends_of.Given as goal

abbrev pub invariant-loop-slot : goal.invariant-loop-slot
invariant-loop-slot l =
    (vec_items l.fn.slots ≡ map Some (vec_items l.ends) ++ into_iter_items l.slot-iterator)
    × (vec_len l.ends + into_iter_len l.slot-iterator ≤ vec_capacity l.ends)
