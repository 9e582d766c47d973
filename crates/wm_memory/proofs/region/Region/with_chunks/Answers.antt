use Rattle.std.proofs.Common.{arith}
use Rattle.wm_memory.proofs.Pushed.{length_pushed, empties_pushed}
use Rattle.wm_memory.proofs.region.Region.with_chunks.Goals as goal

pub loop-number-preserved : goal.loop-number-preserved
loop-number-preserved c = record {
  size = length_pushed _ _ _ _ c.loop-number.invariant.size c.in_ok-push.ensures.items;
  none = empties_pushed _ _ _ c.loop-number.invariant.none c.new.ensures c.in_ok-push.ensures.items;
}

pub returns : goal.returns
returns c = record { size = omega arith; none = c.loop-number.invariant.none }
