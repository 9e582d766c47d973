use Rattle.std.proofs.Common.{length}
use Rattle.wm_decode.specs.Bounds.{profile}
use Rattle.wm_decode.specs.ReadingParts.{code_at}
use Rattle.wm_decode.proofs.Left.{left_within, code_short}
use Rattle.wm_decode.proofs.code.CodeContent.read.Goals as goal

pub returns-clause-left : goal.returns-clause-left
returns-clause-left c = left_within _ (length c.args.bytes.now) c.function_vector.result (code_at profile c.args.self.now.types.now c.args.self.now.indices.now c.args.bytes.now) (code_short profile c.args.self.now.types.now c.args.self.now.indices.now c.args.bytes.now) c.function_vector.ensures
