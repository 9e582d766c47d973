use Rattle.std.proofs.Common.{refl}
use Rattle.wm_witness.proofs.NewSplitLaw.{denied-spent, told-spent}
use Rattle.wm_witness.proofs.new_split.new_split.Goals as goal

pub returns-then-is_told-clause-none : goal.returns-then-is_told-clause-none
returns-then-is_told-clause-none c = told-spent c.args.start.now.log c.args.assumed.now c.args.last (c.if-is_told.ensures.told refl)

pub returns-then-is_told-2-clause-none : goal.returns-then-is_told-2-clause-none
returns-then-is_told-2-clause-none c = denied-spent c.args.start.now.log c.args.assumed.now c.args.last c.in-Some.other c.in-Some.ensures.some (c.if-is_told-2.ensures.told refl)
