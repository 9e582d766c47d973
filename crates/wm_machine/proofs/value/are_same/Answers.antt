use Rattle.wm_machine.proofs.SameLists.{same_below}
use Rattle.wm_machine.proofs.value.are_same.Goals as goal

pub returns : goal.returns
returns c _ = same_below c.args.values.now c.args.others.now c.loop-place.place c.if-values-others.false c.loop-place-test.false c.loop-place.invariant.same
