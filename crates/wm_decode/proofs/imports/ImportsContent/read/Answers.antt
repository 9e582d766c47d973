use Rattle.std.proofs.Common.{length}
use Rattle.wm_decode.specs.Bounds.{profile}
use Rattle.wm_decode.specs.ReadingParts.{imports_at}
use Rattle.wm_decode.proofs.Left.{left_within, imports_short}
use Rattle.wm_decode.proofs.imports.ImportsContent.read.Goals as goal

pub returns-clause-left : goal.returns-clause-left
returns-clause-left c = left_within _ (length c.args.bytes.now) c.at_most_one_import.result (imports_at profile c.args.bytes.now) (imports_short profile c.args.bytes.now) c.at_most_one_import.ensures
