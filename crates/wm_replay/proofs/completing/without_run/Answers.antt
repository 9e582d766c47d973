use Rattle.std.proofs.Common.{◌≡◌, ◌+◌, [], ◌∷◌, ◌++◌, Some, ap, arith, length, subst, ◌∙◌}
use Rattle.std.specs.Prelude.{slice_get}
use Rattle.std.proofs.lemmas.List.{length-append}
use Rattle.wm_replay.specs.Complete.{FindsLongestRun, ending}
use Rattle.wm_replay.proofs.Completions.{completed_more, first_without, is_completion}
use Rattle.wm_replay.proofs.Logs.{item_at, places_in}
use Rattle.wm_replay.proofs.completing.without_run.Goals as goal

pub longest_run-requires : goal.longest_run-requires
longest_run-requires c =
    let is : slice_get c.args.log.now c.loop-number.number ≡ Some c.stated-item.result =
    item_at c.args.log.now c.threads-stated-items.result.now c.loop-number.number c.stated-item.result c.threads-stated-items.ensures.value c.loop-number-test.true c.stated-item.is in
    places_in c.args.log.now c.loop-number.number c.stated-item.result c.threads-stated-items.ensures.keys is

pub returns-in-Ok-Err : goal.returns-in-Ok-Err
returns-in-Ok-Err c =
    let m = c.args.module.now in
    let log = c.args.log.now in
    let n = c.loop-number.number in
    let t = c.stated-item.result in
    let is : slice_get log n ≡ Some t =
    item_at log c.threads-stated-items.result.now n t c.threads-stated-items.ensures.value c.loop-number-test.true c.stated-item.is in
    let without = subst (FindsLongestRun m n t) c.in-Ok-Err.field-0-is c.in-Ok-Err.ensures in
    let before = c.loop-number.invariant in
    first_without m log before.0 n t c.in-Ok-Err.answer before.1 before.2 is without.0 without.1

pub loop-number-preserved : goal.loop-number-preserved
loop-number-preserved c =
    let m = c.args.module.now in
    let log = c.args.log.now in
    let n = c.loop-number.number in
    let t = c.stated-item.result in
    let is : slice_get log n ≡ Some t =
    item_at log c.threads-stated-items.result.now n t c.threads-stated-items.ensures.value c.loop-number-test.true c.stated-item.is in
    let longest = subst (FindsLongestRun m n t) c.in-Ok-Ok.field-0-is c.in-Ok-Ok.ensures in
    let before = c.loop-number.invariant in
    let one = ending t c.in-Ok-Ok.field-0-0.steps c.in-Ok-Ok.field-0-0.end in (
      before.0 ++ one ∷ [],
      length-append before.0 (one ∷ []) ∙ ap (λ i. i + 1) before.1,
      completed_more m log before.0 n t one before.1 is before.2 longest,
    )

pub returns : goal.returns
returns c =
    let m = c.args.module.now in
    let log = c.args.log.now in
    let before = c.loop-number.invariant in
    let items : length c.threads-stated-items.result.now ≡ length log = ap length c.threads-stated-items.ensures.value in
    let all : length before.0 ≡ length log = omega (arith, before.1, items, c.loop-number-test.false, c.loop-number.auto.number-end) in
    (before.0, is_completion m log before.0 all before.2)
