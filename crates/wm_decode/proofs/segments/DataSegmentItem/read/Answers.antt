use Rattle.std.proofs.Common.{arith}
use Rattle.std.proofs.lemmas.Grind.{common_steps}
use Rattle.wm_decode.specs.ReadingParts.{segment_at}
use Rattle.wm_decode.proofs.segments.DataSegmentItem.read.Goals as goal

pub returns-in-empty : goal.returns-in-empty
unfolding segment_at
returns-in-empty c = grind (arith, common_steps)

pub returns-in-len1-up : goal.returns-in-len1-up
unfolding segment_at
returns-in-len1-up c = grind (arith, common_steps)

pub returns-in_err-offset : goal.returns-in_err-offset
unfolding segment_at
returns-in_err-offset c = grind (arith, common_steps)

pub returns-in_err-content : goal.returns-in_err-content
unfolding segment_at
returns-in_err-content c = grind (arith, common_steps)

pub returns-in_err-to_vec : goal.returns-in_err-to_vec
unfolding segment_at
returns-in_err-to_vec c = grind (arith, common_steps)

pub returns : goal.returns
unfolding segment_at
returns c = grind (arith, common_steps)
