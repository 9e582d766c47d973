use Rattle.std.proofs.Common.{arith}
use Rattle.std.proofs.lemmas.Grind.{common_steps}
use Rattle.wm_machine.proofs.control_stack.ControlStack.give_up.Goals as goal

pub overflow_sub-len : goal.overflow_sub-len
overflow_sub-len c = grind (arith, common_steps)

pub index-requires : goal.index-requires
index-requires c = grind (arith, common_steps)

pub index_mut-requires : goal.index_mut-requires
index_mut-requires c = grind (arith, common_steps)

pub invariant_of-self-in-Some : goal.invariant_of-self-in-Some
invariant_of-self-in-Some c = grind (arith, common_steps)

pub returns-after-carry-clause-left : goal.returns-after-carry-clause-left
returns-after-carry-clause-left c = grind (arith, common_steps)
