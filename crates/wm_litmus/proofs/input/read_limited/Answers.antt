use Rattle.std.proofs.Common.{arith}
use Rattle.std.proofs.lemmas.Grind.{common_steps}
use Rattle.wm_litmus.proofs.input.read_limited.Goals as goal

pub returns-then-room-eq0-clause-bound : goal.returns-then-room-eq0-clause-bound
returns-then-room-eq0-clause-bound g c = grind (arith, common_steps)

pub returns-then-room-eq0-clause-known : goal.returns-then-room-eq0-clause-known
returns-then-room-eq0-clause-known g c = grind (arith, common_steps)

pub returns-in_default-clause-bound : goal.returns-in_default-clause-bound
returns-in_default-clause-bound g c = grind (arith, common_steps)

pub returns-in_default-clause-known : goal.returns-in_default-clause-known
returns-in_default-clause-known g c = grind (arith, common_steps)

pub returns-then-count-eq0-clause-bound : goal.returns-then-count-eq0-clause-bound
returns-then-count-eq0-clause-bound g c = grind (arith, common_steps)

pub returns-then-count-eq0-clause-known : goal.returns-then-count-eq0-clause-known
returns-then-count-eq0-clause-known g c = grind (arith, common_steps)

pub returns-in_err-extend_from_slice-clause-bound : goal.returns-in_err-extend_from_slice-clause-bound
returns-in_err-extend_from_slice-clause-bound g c = grind (arith, common_steps)

pub returns-in_err-extend_from_slice-clause-known : goal.returns-in_err-extend_from_slice-clause-known
returns-in_err-extend_from_slice-clause-known g c = grind (arith, common_steps)

pub returns-clause-bound : goal.returns-clause-bound
returns-clause-bound g c = grind (arith, common_steps)

pub returns-clause-known : goal.returns-clause-known
returns-clause-known g c = grind (arith, common_steps)

pub loop-preserved : goal.loop-preserved
loop-preserved g c = grind (arith, common_steps)

pub loop-init : goal.loop-init
loop-init g c = grind (arith, common_steps)
