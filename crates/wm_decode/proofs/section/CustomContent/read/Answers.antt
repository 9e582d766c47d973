use Rattle.std.proofs.Common.{length}
use Rattle.wm_decode.specs.ReadingModule.{custom_at}
use Rattle.wm_decode.proofs.Left.{left_within, custom_short}
use Rattle.wm_decode.proofs.section.CustomContent.read.Goals as goal

pub returns-clause-left : goal.returns-clause-left
returns-clause-left c = left_within _ (length c.args.bytes.now) c.custom_name.result (custom_at c.args.bytes.now) (custom_short c.args.bytes.now) c.custom_name.ensures
