use Rattle.wm_machine.proofs.SameLists.{same_below}
use Rattle.wm_machine.proofs.control_stack.are_same.Goals as goal

pub returns : goal.returns
returns c _ = same_below c.args.frames.now c.args.others.now c.loop-place.place c.if-frames-others.false c.loop-place-test.false c.loop-place.invariant.same
