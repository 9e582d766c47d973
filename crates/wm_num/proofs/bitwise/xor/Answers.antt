use Rattle.std.proofs.lemmas.Nat.{xor_lt}
use Rattle.wm_num.specs.Number.{bits_of}
use Rattle.wm_num.proofs.Digits.{xor_by_digits}
use Rattle.wm_num.proofs.bitwise.xor.Goals as goal

pub returns-clause-operand : goal.returns-clause-operand
returns-clause-operand c = xor_lt (bits_of c.args.width) c.args.left c.args.right c.requires.left c.requires.right

pub returns-clause-value : goal.returns-clause-value
returns-clause-value c = xor_by_digits (bits_of c.args.width) c.args.left c.args.right c.requires.left c.requires.right
