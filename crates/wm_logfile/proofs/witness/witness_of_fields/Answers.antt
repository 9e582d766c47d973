use Rattle.std.proofs.Common.{arith}
use Rattle.std.proofs.lemmas.Grind.{common_steps}
use Rattle.wm_logfile.specs.Reading.{witness_from}
use Rattle.wm_logfile.proofs.witness.witness_of_fields.Goals as goal

pub returns-in_default-clause-given : goal.returns-in_default-clause-given
unfolding witness_from
returns-in_default-clause-given c = grind (arith, common_steps)

pub returns-in_default-clause-fault : goal.returns-in_default-clause-fault
unfolding witness_from
returns-in_default-clause-fault c = grind (arith, common_steps)

pub returns-in_err-writers-clause-given : goal.returns-in_err-writers-clause-given
unfolding witness_from
returns-in_err-writers-clause-given c = grind (arith, common_steps)

pub returns-in_err-writers-clause-fault : goal.returns-in_err-writers-clause-fault
unfolding witness_from
returns-in_err-writers-clause-fault c = grind (arith, common_steps)

pub returns-in_err-order-clause-given : goal.returns-in_err-order-clause-given
unfolding witness_from
returns-in_err-order-clause-given c = grind (arith, common_steps)

pub returns-in_err-order-clause-fault : goal.returns-in_err-order-clause-fault
unfolding witness_from
returns-in_err-order-clause-fault c = grind (arith, common_steps)

pub returns-clause-given : goal.returns-clause-given
unfolding witness_from
returns-clause-given c = grind (arith, common_steps)

pub returns-clause-fault : goal.returns-clause-fault
unfolding witness_from
returns-clause-fault c = grind (arith, common_steps)
