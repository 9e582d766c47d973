use Rattle.std.proofs.Common.{◌≡◌, ◌≤◌, None, All, vec_len, vec_items, vec_capacity}
use Rattle.wm_run.proofs.rounds.board.empty_slots.Given as goal

abbrev pub invariant-loop : goal.invariant-loop
invariant-loop l =
    (l.threads ≤ vec_capacity l.slots)
    × (vec_len l.slots ≡ l.counter)
    × All (λ slot. slot ≡ None) (vec_items l.slots)
