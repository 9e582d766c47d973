use Rattle.std.proofs.Common.{refl, ◌∙◌}
use Rattle.std.specs.Prelude.{slice_index}
use Rattle.wm_closure.proofs.Lowering.{source_more}
use Rattle.wm_closure.proofs.lower_sources.Goals as goal

pub loop-source-preserved : goal.loop-source-preserved
loop-source-preserved c =
    let sources = c.args.sources.now in
    let n = c.loop-source.source-index in
    let before = c.loop-source.invariant in
    record {
      size = c.lower_row.ensures.size ∙ before.size;
      lowered = source_more c.args.width sources c.args.node n (slice_index sources n) c.args.rows.now c.loop-source.rows c.lower_row.new.rows refl before.lowered c.lower_row.ensures.lowered;
    }
