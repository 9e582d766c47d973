use Rattle.std.proofs.Common.{[], refl, ap, inl, length, subst, sym, arith}
use Rattle.wm_memory.specs.Table.{IsRegion}
use Rattle.wm_memory.proofs.Pushed.{length_pushed, empties_pushed}
use Rattle.wm_memory.proofs.cells.Cells.new.Goals as goal

pub loop-number-preserved : goal.loop-number-preserved
loop-number-preserved c = record {
  size = length_pushed _ _ _ _ c.loop-number.invariant.size c.in_ok-push.ensures.items;
  none = empties_pushed _ _ _ c.loop-number.invariant.none c.new.ensures c.in_ok-push.ensures.items;
}

-- a region without chunks
no_chunks : IsRegion []
no_chunks = record { chunks = inl refl; whole = λ k c e. absurd cc }

pub invariant_of-result : goal.invariant_of-result
invariant_of-result c = record {
  size = omega (arith, ap length c.in_ok-copy.ensures);
  each = λ n r e. subst IsRegion (sym (c.loop-number.invariant.none n r e)) no_chunks;
}

pub returns : goal.returns
returns c = record { initial = c.in_ok-copy.ensures; none = c.loop-number.invariant.none }
