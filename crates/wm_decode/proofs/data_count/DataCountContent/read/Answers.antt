use Rattle.std.proofs.Common.{length}
use Rattle.wm_decode.specs.ReadingVectors.{u32_at}
use Rattle.wm_decode.proofs.Left.{left_within, u32_short}
use Rattle.wm_decode.proofs.data_count.DataCountContent.read.Goals as goal

pub returns-clause-left : goal.returns-clause-left
returns-clause-left c = left_within _ (length c.args.bytes.now) c.unsigned_32.result (u32_at c.args.bytes.now) (u32_short c.args.bytes.now) c.unsigned_32.ensures
