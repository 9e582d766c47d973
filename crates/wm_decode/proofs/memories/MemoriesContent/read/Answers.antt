use Rattle.std.proofs.Common.{length}
use Rattle.wm_decode.specs.Bounds.{profile}
use Rattle.wm_decode.specs.ReadingParts.{memories_at}
use Rattle.wm_decode.proofs.Left.{left_within, memories_short}
use Rattle.wm_decode.proofs.memories.MemoriesContent.read.Goals as goal

pub returns-clause-left : goal.returns-clause-left
returns-clause-left c = left_within _ (length c.args.bytes.now) c.at_most_one_memory.result (memories_at profile c.args.self.now.imported c.args.bytes.now) (memories_short profile c.args.self.now.imported c.args.bytes.now) c.at_most_one_memory.ensures
