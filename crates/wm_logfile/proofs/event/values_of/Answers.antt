use Rattle.std.proofs.Common.{arith}
use Rattle.std.proofs.lemmas.Grind.{common_steps}
use Rattle.wm_logfile.proofs.event.values_of.Goals as goal

pub returns-in_err-read-in-Read-len1-clause-given : goal.returns-in_err-read-in-Read-len1-clause-given
returns-in_err-read-in-Read-len1-clause-given c = grind (arith, common_steps)

pub returns-in_err-read-in-Read-len1-clause-fault : goal.returns-in_err-read-in-Read-len1-clause-fault
returns-in_err-read-in-Read-len1-clause-fault c = grind (arith, common_steps)

pub returns-in_err-written-in-Write-len1-clause-given : goal.returns-in_err-written-in-Write-len1-clause-given
returns-in_err-written-in-Write-len1-clause-given c = grind (arith, common_steps)

pub returns-in_err-written-in-Write-len1-clause-fault : goal.returns-in_err-written-in-Write-len1-clause-fault
returns-in_err-written-in-Write-len1-clause-fault c = grind (arith, common_steps)

pub returns-in_err-read-in-Update-len2-clause-given : goal.returns-in_err-read-in-Update-len2-clause-given
returns-in_err-read-in-Update-len2-clause-given c = grind (arith, common_steps)

pub returns-in_err-read-in-Update-len2-clause-fault : goal.returns-in_err-read-in-Update-len2-clause-fault
returns-in_err-read-in-Update-len2-clause-fault c = grind (arith, common_steps)

pub returns-in_err-written-in-Update-len2-clause-given : goal.returns-in_err-written-in-Update-len2-clause-given
returns-in_err-written-in-Update-len2-clause-given c = grind (arith, common_steps)

pub returns-in_err-written-in-Update-len2-clause-fault : goal.returns-in_err-written-in-Update-len2-clause-fault
returns-in_err-written-in-Update-len2-clause-fault c = grind (arith, common_steps)

pub returns-in_ok-read-in-Read-len1-clause-given : goal.returns-in_ok-read-in-Read-len1-clause-given
returns-in_ok-read-in-Read-len1-clause-given c = grind (arith, common_steps)

pub returns-in_ok-read-in-Read-len1-clause-fault : goal.returns-in_ok-read-in-Read-len1-clause-fault
returns-in_ok-read-in-Read-len1-clause-fault c = grind (arith, common_steps)

pub returns-in_ok-written-in-Write-len1-clause-given : goal.returns-in_ok-written-in-Write-len1-clause-given
returns-in_ok-written-in-Write-len1-clause-given c = grind (arith, common_steps)

pub returns-in_ok-written-in-Write-len1-clause-fault : goal.returns-in_ok-written-in-Write-len1-clause-fault
returns-in_ok-written-in-Write-len1-clause-fault c = grind (arith, common_steps)

pub returns-in_ok-written-in-Update-len2-clause-given : goal.returns-in_ok-written-in-Update-len2-clause-given
returns-in_ok-written-in-Update-len2-clause-given c = grind (arith, common_steps)

pub returns-in_ok-written-in-Update-len2-clause-fault : goal.returns-in_ok-written-in-Update-len2-clause-fault
returns-in_ok-written-in-Update-len2-clause-fault c = grind (arith, common_steps)

pub returns-in_default-clause-given : goal.returns-in_default-clause-given
returns-in_default-clause-given c = grind (arith, common_steps)

pub returns-in_default-clause-fault : goal.returns-in_default-clause-fault
returns-in_default-clause-fault c = grind (arith, common_steps)
