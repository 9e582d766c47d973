use Rattle.std.proofs.Common.{◌≤◌, ◌<◌, length, arith, sym, vec_len}
use Rattle.std.proofs.lemmas.List.{set_past}
use Rattle.wm_run.proofs.rounds.board.Board.take_end.Goals as goal
use Rattle.wm_run.proofs.rounds.board.Board.take_end.Goals.{in-None, in-Some}

-- a thread without a slot leaves the slots as they are
pub returns-clause-slots : goal.returns-clause-slots
returns-clause-slots g c =
    let slots = c.args.self.now.slots.items in
    elim c.match-get_mut.branch [
      | in-Some w ↦ rw (c.leave.ensures.slots, w.self-is)
      | in-None w ↦
          let none : c.args.thread < vec_len c.args.self.now.slots → ⊥ = λ lt. absurd (cc (w.in-None.ensures.variant.1 lt)) in
          let past : length slots ≤ c.args.thread = omega (arith, none, c.args.self.now.slots.ok.0) in
          rw (c.leave.ensures.slots, w.self-is) (sym (set_past slots c.args.thread c.args.end past))
    ]
