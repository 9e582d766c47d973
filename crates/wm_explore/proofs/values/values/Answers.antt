use Rattle.std.proofs.Common.{◌≡◌, suc, ◌+◌, ◌-◌, ◌<◌, ◌≤◌, ap, subst, ◌∙◌, arith}
use Rattle.std.proofs.lemmas.Result.{IfOk-weaker}
use Rattle.wm_access.specs.AccessWidth.{bytes_of}
use Rattle.wm_explore.specs.Values.{Has, KeepsNew, OffersAll, WidensTo, highest}
use Rattle.wm_explore.proofs.values.values.Goals as goal

pub loop-done-preserved : goal.loop-done-preserved
loop-done-preserved c = record {
  highest = λ bytes sources.
      let width = bytes_of c.args.op.width in
      let done = c.loop-done.done in
      let k = width - 1 - done in
      let before : Has c.loop-done.parts (highest bytes c.args.mark width done) = c.loop-done.invariant.highest bytes sources in
      let address : c.from.result + c.from-in-loop-done.result ≡ c.args.op.address + k =
      ap (λ a. a + c.from-in-loop-done.result) c.from.ensures ∙ ap (λ b. c.args.op.address + b) (c.from-in-loop-done.ensures ∙ ap (λ w. w - 1 - done) c.bytes-width.ensures) in
      let within : done < width = subst (λ w. done < w) c.bytes-width.ensures c.loop-done-test.true in
      let offers : OffersAll c.args.state.now c.args.initial.now (c.args.op.address + k) c.args.mark c.in_ok-offers.offers =
      subst (λ a. OffersAll c.args.state.now c.args.initial.now a c.args.mark c.in_ok-offers.offers) address c.in_ok-offers.ensures in
      let offered : Has c.in_ok-offers.offers (bytes k) = offers (bytes k) (sources k (omega (arith, within))) in
      let wide : WidensTo c.loop-done.parts c.in_ok-offers.offers c.in_ok-wide.wide =
      subst (λ ps. WidensTo ps c.in_ok-offers.offers c.in_ok-wide.wide) c.as_slice.ensures
      (subst (λ qs. WidensTo c.as_slice.result.now qs c.in_ok-wide.wide) c.as_slice-in-loop-done.ensures c.in_ok-wide.ensures) in
      let next : suc done ≡ done + 1 = omega arith in
      subst (λ n. Has c.in_ok-wide.wide (highest bytes c.args.mark width n)) next (wide (highest bytes c.args.mark width done) (bytes k) before offered);
}

pub returns : goal.returns
returns c = IfOk-weaker c.new_values.result _ _ (λ values keeps bytes sources new.
    let width = bytes_of c.args.op.width in
    let past : width ≤ c.loop-done.done = subst (λ w. w ≤ c.loop-done.done) c.bytes-width.ensures c.loop-done-test.false in
    let end = c.loop-done.auto.done-end in
    let all : c.loop-done.done ≡ width = omega (arith, past, end, c.bytes-width.ensures) in
    let has : Has c.loop-done.parts (highest bytes c.args.mark width width) = subst (λ n. Has c.loop-done.parts (highest bytes c.args.mark width n)) all (c.loop-done.invariant.highest bytes sources) in
    subst (λ ps. KeepsNew ps values) c.as_slice-2.ensures keeps (highest bytes c.args.mark width width) has new) c.new_values.ensures
