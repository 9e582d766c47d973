use Rattle.std.proofs.Common.{◌≤◌, ◌+◌, All, arith, subst, sym, length}
use Rattle.std.proofs.lemmas.List.{take_all}
use Rattle.wm_valid.specs.Memory.{Within, start}
use Rattle.wm_valid.proofs.DataEnds.{within_more}
use Rattle.wm_valid.proofs.image.data_end.Goals as goal

pub loop-segment-preserved : goal.loop-segment-preserved
loop-segment-preserved c =
    let i = c.loop-segment.invariant in
    let more : c.loop-segment.end ≤ c.max-end.result = grind (arith, c.max-end.ensures) in
    let reaches : start c.segment-item.result.offset + length c.segment-item.result.bytes ≤ c.max-end.result = grind (arith, c.max-end.ensures, c.len.ensures, c.start_of.ensures) in
    let fits : start c.segment-item.result.offset + length c.segment-item.result.bytes ≤ c.args.size = subst (Within c.args.size) (sym c.segment-item.is) (c.requires c.loop-segment.segment-index c.segment-item.result c.loop-segment-test.true) in
    record {
      within = within_more c.args.segments.now c.loop-segment.segment-index c.segment-item.result c.loop-segment.end c.max-end.result c.loop-segment-test.true c.segment-item.is more i.within reaches;
      bound = grind (arith, c.max-end.ensures, i.bound, fits, c.len.ensures, c.start_of.ensures);
    }

pub returns-clause-within : goal.returns-clause-within
returns-clause-within c =
    let ended : length c.args.segments.now ≤ c.loop-segment.segment-index = grind (arith, c.loop-segment-test.false) in
    subst (All (Within c.loop-segment.end)) (take_all c.loop-segment.segment-index c.args.segments.now ended) c.loop-segment.invariant.within
