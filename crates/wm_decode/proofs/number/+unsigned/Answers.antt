use Rattle.std.proofs.Common.{arith}
use Rattle.std.proofs.lemmas.Grind.{common_steps}
use Rattle.wm_decode.specs.Reading.{unsigned_at}
use Rattle.wm_decode.proofs.Most.{seven_more}
use Rattle.wm_decode.proofs.number.+unsigned.Goals as goal

pub returns-in_err-high-in-len1-up-clause-exact : goal.returns-in_err-high-in-len1-up-clause-exact
unfolding unsigned_at
returns-in_err-high-in-len1-up-clause-exact t c = grind (arith, common_steps)

pub returns-in_ok-high-in-len1-up-clause-exact : goal.returns-in_ok-high-in-len1-up-clause-exact
unfolding unsigned_at
returns-in_ok-high-in-len1-up-clause-exact t c = grind (arith, common_steps)

pub returns-in_ok-high-in-len1-up-clause-below : goal.returns-in_ok-high-in-len1-up-clause-below
returns-in_ok-high-in-len1-up-clause-below t c = grind (arith, common_steps, seven_more)
