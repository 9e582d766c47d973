use Rattle.std.proofs.Common.{arith}
use Rattle.std.proofs.lemmas.Result.{on_ok_weaker}
use Rattle.wm_explain.specs.Parts.{AllHold}
use Rattle.wm_explain.proofs.Adding.{named_fit, number_fit, pushed}
use Rattle.wm_explain.proofs.remedy.add_fit.Goals.{then-named-eq0+in_ok-push-2, else-named-eq0, then-ids-named+in_ok-push-3, else-ids-named}
use Rattle.wm_explain.proofs.remedy.add_fit.Goals as goal

pub returns : goal.returns
returns c run is =
    let reader = c.args.reader in
    let fit = c.args.fit.now in
    let listed = c.as_slice-ids.result.now in
    on_ok_weaker c.add_prose.result
    (λ more all.
    let byte = pushed run _ _ _ c.in_ok-push.ensures.items (is.0, is.1, is.2.address) all in
    let none : AllHold run c.if-named-eq0.parts.items = elim c.if-named-eq0.branch [
      | then-named-eq0+in_ok-push-2 w ↦ rw w.parts-is (pushed run _ _ _ w.in_ok-push-2.ensures.items (number_fit run reader fit 0 listed c.as_slice-ids.ensures (omega (arith, c.min-named.ensures, w.if-named-eq0.true)) is) byte)
      | else-named-eq0 w ↦ rw w.parts-is byte
    ] in
    let named = c.in_ok-add_named.ensures run (named_fit run reader fit _ listed c.as_slice-ids.ensures is) none in
    more (elim c.if-ids-named.branch [
      | then-ids-named+in_ok-push-3 w ↦ rw w.parts-is (pushed run _ _ _ w.in_ok-push-3.ensures.items (number_fit run reader fit _ listed c.as_slice-ids.ensures (omega (arith, c.min-named.ensures, w.if-ids-named.true)) is) named)
      | else-ids-named w ↦ rw w.parts-is named
    ]))
    (c.add_prose.ensures run)
