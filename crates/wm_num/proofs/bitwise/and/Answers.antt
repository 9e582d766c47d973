use Rattle.wm_num.specs.Number.{bits_of}
use Rattle.wm_num.proofs.Digits.{and_by_digits}
use Rattle.wm_num.proofs.bitwise.and.Goals as goal

pub returns-clause-value : goal.returns-clause-value
returns-clause-value c = and_by_digits (bits_of c.args.width) c.args.left c.args.right c.requires.left
