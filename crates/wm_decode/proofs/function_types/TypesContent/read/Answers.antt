use Rattle.std.proofs.Common.{length}
use Rattle.wm_decode.specs.ReadingVectors.{vector_at}
use Rattle.wm_decode.specs.ReadingParts.{func_type_at}
use Rattle.wm_decode.proofs.Left.{left_within, types_short}
use Rattle.wm_decode.proofs.function_types.TypesContent.read.Goals as goal

pub returns-clause-left : goal.returns-clause-left
returns-clause-left c = left_within _ (length c.args.bytes.now) c.vector.result (vector_at func_type_at c.args.bytes.now) (types_short c.args.bytes.now) c.vector.ensures
