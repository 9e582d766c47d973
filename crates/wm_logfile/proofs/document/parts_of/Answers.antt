use Rattle.std.proofs.Common.{arith}
use Rattle.std.proofs.lemmas.Grind.{common_steps}
use Rattle.wm_logfile.specs.Reading.{parts_from}
use Rattle.wm_logfile.proofs.document.parts_of.Goals as goal

pub returns-in_default-clause-given : goal.returns-in_default-clause-given
unfolding parts_from
returns-in_default-clause-given c = grind (arith, common_steps)

pub returns-in_default-clause-fault : goal.returns-in_default-clause-fault
unfolding parts_from
returns-in_default-clause-fault c = grind (arith, common_steps)

pub returns-in_default-clause-no_want : goal.returns-in_default-clause-no_want
unfolding parts_from
returns-in_default-clause-no_want c = grind (arith, common_steps)

pub returns-in_err-check_name-clause-given : goal.returns-in_err-check_name-clause-given
unfolding parts_from
returns-in_err-check_name-clause-given c = grind (arith, common_steps)

pub returns-in_err-check_name-clause-fault : goal.returns-in_err-check_name-clause-fault
unfolding parts_from
returns-in_err-check_name-clause-fault c = grind (arith, common_steps)

pub returns-in_err-check_name-clause-no_want : goal.returns-in_err-check_name-clause-no_want
unfolding parts_from
returns-in_err-check_name-clause-no_want c = grind (arith, common_steps)

pub returns-in_err-version-clause-given : goal.returns-in_err-version-clause-given
unfolding parts_from
returns-in_err-version-clause-given c = grind (arith, common_steps)

pub returns-in_err-version-clause-fault : goal.returns-in_err-version-clause-fault
unfolding parts_from
returns-in_err-version-clause-fault c = grind (arith, common_steps)

pub returns-in_err-version-clause-no_want : goal.returns-in_err-version-clause-no_want
unfolding parts_from
returns-in_err-version-clause-no_want c = grind (arith, common_steps)

pub returns-clause-given : goal.returns-clause-given
unfolding parts_from
returns-clause-given c = grind (arith, common_steps)

pub returns-clause-fault : goal.returns-clause-fault
unfolding parts_from
returns-clause-fault c = grind (arith, common_steps)

pub returns-clause-no_want : goal.returns-clause-no_want
unfolding parts_from
returns-clause-no_want c = grind (arith, common_steps)
