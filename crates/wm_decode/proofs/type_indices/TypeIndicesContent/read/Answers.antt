use Rattle.std.proofs.Common.{length}
use Rattle.wm_decode.specs.Bounds.{profile}
use Rattle.wm_decode.specs.ReadingParts.{indices_at}
use Rattle.wm_decode.proofs.Left.{left_within, indices_short}
use Rattle.wm_decode.proofs.type_indices.TypeIndicesContent.read.Goals as goal

pub returns-clause-left : goal.returns-clause-left
returns-clause-left c = left_within _ (length c.args.bytes.now) c.indices.result (indices_at profile c.args.bytes.now) (indices_short profile c.args.bytes.now) c.indices.ensures
