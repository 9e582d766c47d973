use Rattle.std.proofs.Common.{arith}
use Rattle.std.proofs.lemmas.Grind.{common_steps}
use Rattle.wm_decode.specs.ReadingModule.{section_at}
use Rattle.wm_decode.proofs.section.section.Goals as goal

pub returns-then-first-byte : goal.returns-then-first-byte
unfolding section_at
returns-then-first-byte g c = grind (arith, common_steps)

pub returns-in_err-value-in-len1-up : goal.returns-in_err-value-in-len1-up
unfolding section_at
returns-in_err-value-in-len1-up g c = grind (arith, common_steps)

pub returns-in_err-after-in-len1-up : goal.returns-in_err-after-in-len1-up
unfolding section_at
returns-in_err-after-in-len1-up g c = grind (arith, common_steps)

pub returns-in-empty : goal.returns-in-empty
unfolding section_at
returns-in-empty g c = grind (arith, common_steps)

pub returns-in_ok-after-in-len1-up : goal.returns-in_ok-after-in-len1-up
unfolding section_at
returns-in_ok-after-in-len1-up g c = grind (arith, common_steps)
