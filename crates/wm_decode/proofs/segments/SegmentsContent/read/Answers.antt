use Rattle.std.proofs.Common.{length}
use Rattle.wm_decode.specs.ReadingParts.{segments_at}
use Rattle.wm_decode.proofs.Left.{left_within, segments_short}
use Rattle.wm_decode.proofs.segments.SegmentsContent.read.Goals as goal

pub returns-clause-left : goal.returns-clause-left
returns-clause-left c = left_within _ (length c.args.bytes.now) c.segment_vector.result (segments_at c.args.self.now.declared c.args.bytes.now) (segments_short c.args.self.now.declared c.args.bytes.now) c.segment_vector.ensures
