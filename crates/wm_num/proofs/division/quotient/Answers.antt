use Rattle.std.proofs.Common.{arith}
use Rattle.std.proofs.lemmas.Grind.{common_steps}
use Rattle.wm_num.proofs.division.quotient.Goals as goal

pub signed_32-requires : goal.signed_32-requires
signed_32-requires c = grind (arith, common_steps)

pub wrapping_div-requires : goal.wrapping_div-requires
wrapping_div-requires c = grind (arith, common_steps)

pub returns-in-W32 : goal.returns-in-W32
returns-in-W32 c = grind (arith, common_steps)

pub returns-in-W64 : goal.returns-in-W64
returns-in-W64 c = grind (arith, common_steps)
