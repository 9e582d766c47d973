use Rattle.std.proofs.Common.{arith}
use Rattle.std.proofs.lemmas.Grind.{common_steps}
use Rattle.std.proofs.lemmas.Option.{gets}
use Rattle.wm_sites.proofs.opcode_numbers.OpcodeNumbers.at.Goals as goal

pub returns-in_err-get : goal.returns-in_err-get
returns-in_err-get c = grind (arith, common_steps, gets)

pub returns-in_err-copied : goal.returns-in_err-copied
returns-in_err-copied c = grind (arith, common_steps, gets)

pub returns : goal.returns
returns c = grind (arith, common_steps, gets)
