-- those so far are
use Rattle.std.specs.Prelude.{All, take}
use Rattle.wm_event.specs.LoggedRun.{execution}
use Rattle.wm_event.specs.Rules.{IsTearFreeLike}
use Rattle.wm_witness.proofs.offers.are_like.Given as goal

abbrev pub invariant-loop-id : goal.invariant-loop-id
invariant-loop-id l = All (IsTearFreeLike (execution l.start) l.event) (take l.id-index l.ids)
