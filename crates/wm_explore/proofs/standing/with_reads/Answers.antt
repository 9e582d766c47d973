use Rattle.wm_explore.proofs.standing.with_reads.Goals as goal

pub loop-place-preserved : goal.loop-place-preserved
loop-place-preserved c = record {
  before = λ initial knows before. c.with_read-all.ensures initial knows (c.loop-place.invariant.before initial knows before);
}
