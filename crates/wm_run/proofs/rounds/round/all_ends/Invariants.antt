use Rattle.std.proofs.Common.{◌≡◌, ◌+◌, ◌≤◌, ◌++◌, map, Ok, vec_len, vec_items, vec_capacity}
use Rattle.std.specs.Vec.Iter.{into_iter_items, into_iter_len}
use Rattle.wm_run.proofs.rounds.round.all_ends.Given as goal

abbrev pub invariant-loop-done : goal.invariant-loop-done
invariant-loop-done l =
    (vec_items l.fn.results ≡ map Ok (vec_items l.ends) ++ into_iter_items l.done-iterator)
    × (vec_len l.ends + into_iter_len l.done-iterator ≤ vec_capacity l.ends)
