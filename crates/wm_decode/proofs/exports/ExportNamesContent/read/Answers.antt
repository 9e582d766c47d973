use Rattle.std.proofs.Common.{length}
use Rattle.wm_decode.specs.ReadingParts.{exports_at}
use Rattle.wm_decode.proofs.Left.{left_within, exports_short}
use Rattle.wm_decode.proofs.exports.ExportNamesContent.read.Goals as goal

pub returns-clause-left : goal.returns-clause-left
returns-clause-left c = left_within _ (length c.args.bytes.now) c.export_vector.result (exports_at c.args.bytes.now) (exports_short c.args.bytes.now) c.export_vector.ensures
