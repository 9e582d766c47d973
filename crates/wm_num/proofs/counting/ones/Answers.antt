use Rattle.wm_num.specs.Number.{bits_of}
use Rattle.wm_num.proofs.Counts.{ones_by_digits}
use Rattle.wm_num.proofs.counting.ones.Goals as goal

pub returns-clause-value : goal.returns-clause-value
returns-clause-value c = ones_by_digits (bits_of c.args.width) c.args.operand c.requires
