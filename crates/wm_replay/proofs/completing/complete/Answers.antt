use Rattle.std.proofs.Common.{◌≡◌, ◌+◌, [], ◌∷◌, ◌++◌, Some, ap, length, rules, subst, sym, ◌∙◌}
use Rattle.std.specs.Prelude.{slice_get}
use Rattle.std.proofs.lemmas.List.{length-append}
use Rattle.wm_replay.specs.Complete.{CompletesThread, IsCompletion}
use Rattle.wm_replay.proofs.Completions.{AreCompleted, completed_more, first_without, is_completion, is_log}
use Rattle.wm_replay.proofs.Logs.{item_at, places_in}
use Rattle.wm_replay.proofs.completing.complete.Goals as goal

pub complete_thread-requires : goal.complete_thread-requires
complete_thread-requires c =
    let is : slice_get c.args.log.now c.loop-number.number ≡ Some c.stated-item.result =
    item_at c.args.log.now c.threads-stated-items.result.now c.loop-number.number c.stated-item.result c.threads-stated-items.ensures.value c.loop-number-test.true c.stated-item.is in
    places_in c.args.log.now c.loop-number.number c.stated-item.result c.threads-stated-items.ensures.keys is

pub returns-in-Ok-Err : goal.returns-in-Ok-Err
returns-in-Ok-Err c =
    let m = c.args.module.now in
    let log = c.args.log.now in
    let n = c.loop-number.number in
    let t = c.stated-item.result in
    let is : slice_get log n ≡ Some t =
    item_at log c.threads-stated-items.result.now n t c.threads-stated-items.ensures.value c.loop-number-test.true c.stated-item.is in
    let without = subst (CompletesThread m n t) c.in-Ok-Err.field-0-is c.in-Ok-Err.ensures in
    first_without m log c.loop-number.completed n t c.in-Ok-Err.answer c.loop-number.invariant.count c.loop-number.invariant.are is without.0 without.1

pub loop-number-preserved : goal.loop-number-preserved
loop-number-preserved c =
    let m = c.args.module.now in
    let log = c.args.log.now in
    let n = c.loop-number.number in
    let t = c.stated-item.result in
    let before = c.loop-number.completed in
    let one = c.in-Ok-Ok.thread in
    let is : slice_get log n ≡ Some t =
    item_at log c.threads-stated-items.result.now n t c.threads-stated-items.ensures.value c.loop-number-test.true c.stated-item.is in
    let longest = subst (CompletesThread m n t) c.in-Ok-Ok.field-0-is c.in-Ok-Ok.ensures in
    let pushed : c.push.new.self ≡ before ++ one ∷ [] = c.in_ok-push-in-Ok-Ok.ensures.ok in
    let more = completed_more m log before n t one c.loop-number.invariant.count is c.loop-number.invariant.are longest in
    record {
      count = ap length pushed ∙ length-append before (one ∷ []) ∙ ap (λ i. i + 1) c.loop-number.invariant.count;
      are = subst (AreCompleted m log) (sym pushed) more;
    }

pub new-requires : goal.new-requires
new-requires c =
    let log = c.args.log.now in
    let all : length c.loop-number.completed ≡ length log = search rules in
    is_log c.args.module.now log c.loop-number.completed c.threads-stated-items.ensures.log all c.loop-number.invariant.are

pub returns : goal.returns
returns c =
    let m = c.args.module.now in
    let log = c.args.log.now in
    let all : length c.loop-number.completed ≡ length log = search rules in
    subst (IsCompletion m log) (sym c.new.ensures) (is_completion m log c.loop-number.completed all c.loop-number.invariant.are)
