use Rattle.std.proofs.lemmas.Nat.{or_lt}
use Rattle.wm_num.specs.Number.{bits_of}
use Rattle.wm_num.proofs.Digits.{or_by_digits}
use Rattle.wm_num.proofs.bitwise.or.Goals as goal

pub returns-clause-operand : goal.returns-clause-operand
returns-clause-operand c = or_lt (bits_of c.args.width) c.args.left c.args.right c.requires.left c.requires.right

pub returns-clause-value : goal.returns-clause-value
returns-clause-value c = or_by_digits (bits_of c.args.width) c.args.left c.args.right c.requires.left c.requires.right
