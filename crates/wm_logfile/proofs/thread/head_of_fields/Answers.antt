use Rattle.std.proofs.Common.{arith}
use Rattle.std.proofs.lemmas.Grind.{common_steps}
use Rattle.wm_logfile.specs.Reading.{head_from}
use Rattle.wm_logfile.proofs.thread.head_of_fields.Goals as goal

pub returns-in_default-clause-given : goal.returns-in_default-clause-given
unfolding head_from
returns-in_default-clause-given c = grind (arith, common_steps)

pub returns-in_default-clause-fault : goal.returns-in_default-clause-fault
unfolding head_from
returns-in_default-clause-fault c = grind (arith, common_steps)

pub returns-in_err-start-clause-given : goal.returns-in_err-start-clause-given
unfolding head_from
returns-in_err-start-clause-given c = grind (arith, common_steps)

pub returns-in_err-start-clause-fault : goal.returns-in_err-start-clause-fault
unfolding head_from
returns-in_err-start-clause-fault c = grind (arith, common_steps)

pub returns-in_err-end-clause-given : goal.returns-in_err-end-clause-given
unfolding head_from
returns-in_err-end-clause-given c = grind (arith, common_steps)

pub returns-in_err-end-clause-fault : goal.returns-in_err-end-clause-fault
unfolding head_from
returns-in_err-end-clause-fault c = grind (arith, common_steps)

pub returns-in_err-steps-clause-given : goal.returns-in_err-steps-clause-given
unfolding head_from
returns-in_err-steps-clause-given c = grind (arith, common_steps)

pub returns-in_err-steps-clause-fault : goal.returns-in_err-steps-clause-fault
unfolding head_from
returns-in_err-steps-clause-fault c = grind (arith, common_steps)

pub returns-clause-given : goal.returns-clause-given
unfolding head_from
returns-clause-given c = grind (arith, common_steps)

pub returns-clause-fault : goal.returns-clause-fault
unfolding head_from
returns-clause-fault c = grind (arith, common_steps)
