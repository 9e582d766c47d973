use Rattle.std.proofs.Common.{subst, sym}
use Rattle.std.specs.Prelude.{All}
use Rattle.wm_writers.specs.Answer.{IsSource}
use Rattle.wm_explain.proofs.remedy.add_fits.Goals as goal

pub loop-source-preserved : goal.loop-source-preserved
loop-source-preserved c run are all =
    let each = subst (All (IsSource run)) (sym c.as_slice-source-items.ensures) are in
    c.in_ok-add_source.ensures run
    (subst (IsSource run) (sym c.source-item.is) (each c.loop-source.source-index c.source-item.result c.loop-source-test.true))
    (c.loop-source.invariant run are all)

pub returns : goal.returns
returns c run are all = c.loop-source.invariant run are (c.in_ok-add_prose.ensures run all)
