use Rattle.std.proofs.Common.{refl, sym, ap, ◌∙◌, arith}
use Rattle.std.specs.Prelude.{box_value}
use Rattle.wm_machine.proofs.SameLists.{length_mapped, one_more_same, same_below}
use Rattle.wm_machine.proofs.call_stack.are_same.Goals as goal

pub loop-place-preserved : goal.loop-place-preserved
loop-place-preserved c = record {
  same = one_more_same box_value c.args.calls.now c.args.others.now c.loop-place.place c.index-calls-place.result c.index-others-place.result c.loop-place-test.true c.if-calls-others.false c.index-calls-place.is c.index-others-place.is
      (ap (λ v. v) (sym c.deref.ensures) ∙ c.if-not-is_same.ensures refl ∙ c.deref-in-loop-place.ensures) c.loop-place.invariant.same;
}

pub returns : goal.returns
returns c _ =
    let one = length_mapped box_value c.args.calls.now in
    let other = length_mapped box_value c.args.others.now in
    let count = c.if-calls-others.false in
    let done = c.loop-place-test.false in
    same_below _ _ c.loop-place.place (one ∙ count ∙ sym other) (omega (arith, done, one)) c.loop-place.invariant.same
