use Rattle.std.proofs.Common.{append_assoc, arith, sym}
use Rattle.std.proofs.lemmas.List.{map-append}
use Rattle.wm_run.proofs.rounds.board.ends_of.Goals as goal

pub loop-slot-preserved : goal.loop-slot-preserved
loop-slot-preserved c =
    let steps = c.in-Some.ensures.steps in (
      rw (c.loop-slot.invariant.0, steps.0, c.in-Some-slot.is, c.push_reserved.ensures.items) (simp (map-append, append_assoc)),
      omega (arith, steps),
    )

pub loop-slot-init : goal.loop-slot-init
loop-slot-init c =
    let given = c.into_iter-slot-iterator.ensures.into_iter_gives in
    let new = c.in_ok-ends.ensures in
    (rw new.items (sym given.0), omega (arith, given, new.len, new.capacity))
