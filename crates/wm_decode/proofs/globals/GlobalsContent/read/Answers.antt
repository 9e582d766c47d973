use Rattle.std.proofs.Common.{length}
use Rattle.wm_decode.specs.ReadingVectors.{vector_at}
use Rattle.wm_decode.specs.ReadingParts.{global_at}
use Rattle.wm_decode.proofs.Left.{left_within, globals_short}
use Rattle.wm_decode.proofs.globals.GlobalsContent.read.Goals as goal

pub returns-clause-left : goal.returns-clause-left
returns-clause-left c = left_within _ (length c.args.bytes.now) c.vector.result (vector_at global_at c.args.bytes.now) (globals_short c.args.bytes.now) c.vector.ensures
