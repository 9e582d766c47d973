use Rattle.std.proofs.Common.{get_or}
use Rattle.std.specs.Prelude.{IsTrue}
use Rattle.wm_event.specs.declared.event.Event.{Event}
use Rattle.wm_event.specs.declared.event.EventId.TheVariants.{Init}
use Rattle.wm_explain.specs.Parts.{OfRead}
use Rattle.wm_writers.specs.Fits as fit
use Rattle.wm_explain.proofs.Adding.{pushed}
use Rattle.wm_explain.proofs.remedy.add_named.Goals.{then-position-eq0+in_ok-push, else-position-eq0+in_ok-push-2}
use Rattle.wm_explain.proofs.remedy.add_named.Goals as goal

pub loop-position-preserved : goal.loop-position-preserved
loop-position-preserved c run named all =
    let so-far = c.loop-position.invariant run named all in
    let fits : OfRead run c.args.reader (λ (e : Event). IsTrue (fit.fits run.log run.initial e c.args.byte (get_or c.args.named.now c.loop-position.position Init)))
    = (named.0, named.1, named.2 c.loop-position.position Init c.loop-position-test.true) in
    elim c.if-position-eq0.branch [
      | then-position-eq0+in_ok-push w ↦ rw w.parts-is (pushed run _ _ _ w.in_ok-push.ensures.items fits so-far)
      | else-position-eq0+in_ok-push-2 w ↦ rw w.parts-is (pushed run _ _ _ w.in_ok-push-2.ensures.items fits so-far)
    ]
