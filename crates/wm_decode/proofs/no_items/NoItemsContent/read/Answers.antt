use Rattle.std.proofs.Common.{length}
use Rattle.wm_decode.specs.ReadingParts.{no_items_at}
use Rattle.wm_decode.proofs.Left.{left_within, no_items_short}
use Rattle.wm_decode.proofs.no_items.NoItemsContent.read.Goals as goal

pub returns-clause-left : goal.returns-clause-left
returns-clause-left c = left_within _ (length c.args.bytes.now) c.no_items.result (no_items_at c.args.bytes.now) (no_items_short c.args.bytes.now) c.no_items.ensures
