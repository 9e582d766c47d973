use Rattle.std.proofs.Common.{◌∙◌, arith}
use Rattle.wm_valid.proofs.Laid.{laid_byte}
use Rattle.wm_valid.proofs.image.lay.Goals as goal

pub returns : goal.returns
returns c = λ k h. laid_byte c.args.bytes.now c.copy_from_slice.new.self c.args.segment.now c.start_of-first.result c.len.result k c.start_of-first.ensures c.len.ensures (omega (arith, c.requires, c.start_of-first.ensures)) (c.copy_from_slice.ensures.after ∙ c.as_slice.ensures)
