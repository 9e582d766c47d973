use Rattle.std.proofs.Common.{◌≡◌, ◌<◌, length, Some, refl, sym, ap, ◌∙◌, arith}
use Rattle.std.specs.Prelude.{slice_get}
use Rattle.std.proofs.lemmas.Option.{same_Some}
use Rattle.wm_event.specs.declared.log.ThreadLog.{ThreadLog}
use Rattle.wm_explore.proofs.Items.{item_at, one_more}
use Rattle.wm_explore.proofs.Ends.{end_at, same_ends, same_length}
use Rattle.wm_explore.proofs.search.have_same_ends.Goals as goal

pub returns-then-log-other-clause-other : goal.returns-then-log-other-clause-other
returns-then-log-other-clause-other c _ same = c.if-log-other.true (same_length c.args.log.now c.args.other.now same)

pub returns-then-not-are_same-clause-other : goal.returns-then-not-are_same-clause-other
returns-then-not-are_same-clause-other c _ same =
    let is_log = item_at c.args.log.now c.args.log.now c.loop-number.number c.index-log-number.result refl c.loop-number-test.true c.index-log-number.is in
    let count : length c.args.log.now ≡ length c.args.other.now = c.if-log-other.false in
    let within = c.loop-number-test.true in
    let is_other = item_at c.args.other.now c.args.other.now c.loop-number.number c.index-other-number.result refl (let lt : c.loop-number.number < length c.args.other.now = omega (arith, count, within) in lt) c.index-other-number.is in
    c.if-not-are_same.ensures.other refl (end_at c.args.log.now c.args.other.now c.loop-number.number c.index-log-number.result c.index-other-number.result same is_log is_other ∙ ap (λ (x : ThreadLog). x.end) c.index-other-number.is)

pub loop-number-preserved : goal.loop-number-preserved
loop-number-preserved c =
    let is_log = item_at c.args.log.now c.args.log.now c.loop-number.number c.index-log-number.result refl c.loop-number-test.true c.index-log-number.is in
    let count : length c.args.log.now ≡ length c.args.other.now = c.if-log-other.false in
    let within = c.loop-number-test.true in
    let is_other = item_at c.args.other.now c.args.other.now c.loop-number.number c.index-other-number.result refl (let lt : c.loop-number.number < length c.args.other.now = omega (arith, count, within) in lt) c.index-other-number.is in
    record {
      same = λ i t u lt at_log at_other.
          one_more (λ j x. (y : ThreadLog) → slice_get c.args.other.now j ≡ Some y → x.end ≡ y.end) c.args.log.now c.loop-number.number c.index-log-number.result is_log
          (λ y at. c.if-not-are_same.ensures.same refl ∙ ap (λ (x : ThreadLog). x.end) (sym c.index-other-number.is) ∙ ap (λ (x : ThreadLog). x.end) (same_Some c.index-other-number.result y (sym is_other ∙ at)))
          (λ j x below at_x y at_y. c.loop-number.invariant.same j x y below at_x at_y) i t lt at_log u at_other;
    }

pub returns-clause-same : goal.returns-clause-same
returns-clause-same c _ =
    let count : length c.args.log.now ≡ length c.args.other.now = c.if-log-other.false in
    let all = c.loop-number-test.false in
    same_ends c.args.log.now c.args.other.now c.loop-number.number count all c.loop-number.invariant.same
