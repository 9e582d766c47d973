use Rattle.std.proofs.Common.{◌∙◌, ap}
use Rattle.std.specs.Int.{w32, w64}
use Rattle.std.specs.Int.Count.{count_trailing_zeros}
use Rattle.std.proofs.lemmas.Nat.Bits.{bit_at-trailing_zeros}
use Rattle.wm_num.proofs.Counts.{trailing_by_places, trailing_of_zero, trailing_divides}
use Rattle.wm_num.proofs.counting.trailing_zeros.Goals as goal

pub returns-in-W32-clause-value : goal.returns-in-W32-clause-value
returns-in-W32-clause-value c = rw c.in-W32.is (trailing_by_places 32 c.args.operand)

pub returns-in-W32-clause-zero : goal.returns-in-W32-clause-zero
returns-in-W32-clause-zero c = rw c.in-W32.is (λ none. ap (count_trailing_zeros 32) none ∙ trailing_of_zero 32)

pub returns-in-W32-clause-divisible : goal.returns-in-W32-clause-divisible
returns-in-W32-clause-divisible c = trailing_divides 32 c.args.operand

pub returns-in-W32-clause-lowest : goal.returns-in-W32-clause-lowest
returns-in-W32-clause-lowest c =
    let fits = rw c.in-W32.is at c.requires in λ some. (bit_at-trailing_zeros w32 c.args.operand some fits).1

pub returns-in-W64-clause-value : goal.returns-in-W64-clause-value
returns-in-W64-clause-value c = rw c.in-W64.is (trailing_by_places 64 c.args.operand)

pub returns-in-W64-clause-zero : goal.returns-in-W64-clause-zero
returns-in-W64-clause-zero c = rw c.in-W64.is (λ none. ap (count_trailing_zeros 64) none ∙ trailing_of_zero 64)

pub returns-in-W64-clause-divisible : goal.returns-in-W64-clause-divisible
returns-in-W64-clause-divisible c = trailing_divides 64 c.args.operand

pub returns-in-W64-clause-lowest : goal.returns-in-W64-clause-lowest
returns-in-W64-clause-lowest c =
    let fits = rw c.in-W64.is at c.requires in λ some. (bit_at-trailing_zeros w64 c.args.operand some fits).1
