use Rattle.std.proofs.Common.{subst, sym}
use Rattle.std.specs.Prelude.{All}
use Rattle.wm_writers.specs.Answer.{IsByteOf}
use Rattle.wm_explain.proofs.remedy.add_source.Goals as goal

pub loop-fit-preserved : goal.loop-fit-preserved
loop-fit-preserved c run is all =
    let need = c.args.source.now.need in
    let each = subst (All (IsByteOf run need)) (sym c.as_slice-fit-items.ensures) is.each in
    let byte = subst (IsByteOf run need) (sym c.fit-item.is) (each c.loop-fit.fit-index c.fit-item.result c.loop-fit-test.true) in
    c.in_ok-add_fit.ensures run byte.1 (c.loop-fit.invariant run is all)
