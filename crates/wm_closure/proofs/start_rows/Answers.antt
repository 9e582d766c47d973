use Rattle.std.proofs.Common.{◌<◌, ◌+◌, ◌*◌, length, ◌∙◌}
use Rattle.std.specs.Prelude.{slice_index}
use Rattle.std.proofs.lemmas.List.{length-set}
use Rattle.wm_closure.proofs.Starting.{own_more}
use Rattle.wm_closure.proofs.start_rows.Goals as goal

pub loop-node-preserved : goal.loop-node-preserved
loop-node-preserved c =
    let lanes = c.args.lanes.now in
    let width = c.args.width in
    let n = c.loop-node.node in
    let rows = c.loop-node.rows.items in
    let there : n < length lanes = c.loop-node-test.true in
    record {
      size = length-set rows (n * width + slice_index lanes n) n ∙ c.loop-node.invariant.size;
      own = own_more lanes width n rows c.requires there c.loop-node.invariant.size c.loop-node.invariant.own;
    }
