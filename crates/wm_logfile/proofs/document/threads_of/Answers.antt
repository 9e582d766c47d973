use Rattle.std.proofs.Common.{arith}
use Rattle.std.proofs.lemmas.Grind.{common_steps}
use Rattle.wm_logfile.proofs.document.threads_of.Goals as goal

pub returns-in_err-values-clause-given : goal.returns-in_err-values-clause-given
returns-in_err-values-clause-given g c = grind (arith, common_steps)

pub returns-in_err-values-clause-fault : goal.returns-in_err-values-clause-fault
returns-in_err-values-clause-fault g c = grind (arith, common_steps)

pub returns-then-values-gt-MAX_THREADS-clause-given : goal.returns-then-values-gt-MAX_THREADS-clause-given
returns-then-values-gt-MAX_THREADS-clause-given g c = grind (arith, common_steps)

pub returns-then-values-gt-MAX_THREADS-clause-fault : goal.returns-then-values-gt-MAX_THREADS-clause-fault
returns-then-values-gt-MAX_THREADS-clause-fault g c = grind (arith, common_steps)

pub returns-in_err-each_of-clause-given : goal.returns-in_err-each_of-clause-given
returns-in_err-each_of-clause-given g c = grind (arith, common_steps)

pub returns-in_err-each_of-clause-fault : goal.returns-in_err-each_of-clause-fault
returns-in_err-each_of-clause-fault g c = grind (arith, common_steps)

pub returns-clause-given : goal.returns-clause-given
returns-clause-given g c = grind (arith, common_steps)

pub returns-clause-fault : goal.returns-clause-fault
returns-clause-fault g c = grind (arith, common_steps)
