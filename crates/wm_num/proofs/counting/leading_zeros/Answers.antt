use Rattle.std.proofs.Common.{◌∙◌, ap}
use Rattle.std.specs.Int.Count.{count_leading_zeros, leading_of_zero}
use Rattle.wm_num.proofs.Counts.{leading_by_places, highest_one}
use Rattle.wm_num.proofs.counting.leading_zeros.Goals as goal

pub returns-in-W32-clause-value : goal.returns-in-W32-clause-value
returns-in-W32-clause-value c = rw c.in-W32.is (leading_by_places 32 c.args.operand (rw c.in-W32.is at c.requires))

pub returns-in-W32-clause-zero : goal.returns-in-W32-clause-zero
returns-in-W32-clause-zero c = rw c.in-W32.is (λ none. ap (count_leading_zeros 32) none ∙ leading_of_zero 32)

pub returns-in-W32-clause-below : goal.returns-in-W32-clause-below
returns-in-W32-clause-below c = rw c.in-W32.is (highest_one 32 c.args.operand (rw c.in-W32.is at c.requires)).0

pub returns-in-W32-clause-reached : goal.returns-in-W32-clause-reached
returns-in-W32-clause-reached c = rw c.in-W32.is (highest_one 32 c.args.operand (rw c.in-W32.is at c.requires)).1

pub returns-in-W64-clause-value : goal.returns-in-W64-clause-value
returns-in-W64-clause-value c = rw c.in-W64.is (leading_by_places 64 c.args.operand (rw c.in-W64.is at c.requires))

pub returns-in-W64-clause-zero : goal.returns-in-W64-clause-zero
returns-in-W64-clause-zero c = rw c.in-W64.is (λ none. ap (count_leading_zeros 64) none ∙ leading_of_zero 64)

pub returns-in-W64-clause-below : goal.returns-in-W64-clause-below
returns-in-W64-clause-below c = rw c.in-W64.is (highest_one 64 c.args.operand (rw c.in-W64.is at c.requires)).0

pub returns-in-W64-clause-reached : goal.returns-in-W64-clause-reached
returns-in-W64-clause-reached c = rw c.in-W64.is (highest_one 64 c.args.operand (rw c.in-W64.is at c.requires)).1
