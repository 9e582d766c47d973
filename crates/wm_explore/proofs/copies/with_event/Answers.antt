use Rattle.std.proofs.Common.{◌≡◌, ◌≤◌, [], ◌∷◌, ◌++◌, length, take_all, Some, sym, ap, subst, ◌∙◌, arith}
use Rattle.std.specs.Prelude.{slice_get}
use Rattle.wm_event.specs.Log.{IsLog}
use Rattle.wm_explore.specs.States.{extended, with_last}
use Rattle.wm_explore.proofs.Items.{item_at}
use Rattle.wm_explore.proofs.Lists.{extended_at, extended_length, extended_other, take_next}
use Rattle.wm_explore.proofs.copies.with_event.Goals as goal

pub loop-number-preserved-then-number-thread : goal.loop-number-preserved-then-number-thread
loop-number-preserved-then-number-thread c = record {
  copied =
      let n = c.loop-number.number in
      let t = c.stated-item.result in
      let is = item_at c.args.log.now c.threads-stated-items.result.now n t c.threads-stated-items.ensures.value c.loop-number-test.true c.stated-item.is in
      let there : slice_get (extended c.args.thread c.args.event c.args.log.now) n ≡ Some (with_last t c.args.event) =
      subst (λ k. slice_get (extended c.args.thread c.args.event c.args.log.now) k ≡ Some (with_last t c.args.event)) (sym c.if-number-thread.true)
      (extended_at c.args.thread c.args.event c.args.log.now t (subst (λ k. slice_get c.args.log.now k ≡ Some t) c.if-number-thread.true is)) in
      c.in_ok-push.ensures.ok ∙ ap (λ x. c.loop-number.copy ++ x ∷ []) c.in_ok-extended_thread.ensures ∙ ap (λ xs. xs ++ with_last t c.args.event ∷ []) c.loop-number.invariant.copied
      ∙ sym (take_next (extended c.args.thread c.args.event c.args.log.now) n (with_last t c.args.event) there);
}

pub loop-number-preserved : goal.loop-number-preserved
loop-number-preserved c = record {
  copied =
      let n = c.loop-number.number in
      let t = c.stated-item.result in
      let is = item_at c.args.log.now c.threads-stated-items.result.now n t c.threads-stated-items.ensures.value c.loop-number-test.true c.stated-item.is in
      let there : slice_get (extended c.args.thread c.args.event c.args.log.now) n ≡ Some t =
      extended_other c.args.thread c.args.event c.args.log.now n c.if-number-thread.false ∙ is in
      c.in_ok-push-2.ensures.ok ∙ ap (λ x. c.loop-number.copy ++ x ∷ []) c.in_ok-copied_thread.ensures ∙ ap (λ xs. xs ++ t ∷ []) c.loop-number.invariant.copied
      ∙ sym (take_next (extended c.args.thread c.args.event c.args.log.now) n t there);
}

pub new-requires : goal.new-requires
new-requires c =
    let ext = extended c.args.thread c.args.event c.args.log.now in
    let count : length ext ≡ length c.threads-stated-items.result.now = extended_length c.args.thread c.args.event c.args.log.now ∙ ap length (sym c.threads-stated-items.ensures.value) in
    let past = c.loop-number-test.false in
    let all : length ext ≤ c.loop-number.number = omega (arith, count, past) in
    subst IsLog (sym (c.loop-number.invariant.copied ∙ take_all c.loop-number.number ext all)) c.requires

pub returns : goal.returns
returns c =
    let ext = extended c.args.thread c.args.event c.args.log.now in
    let count : length ext ≡ length c.threads-stated-items.result.now = extended_length c.args.thread c.args.event c.args.log.now ∙ ap length (sym c.threads-stated-items.ensures.value) in
    let past = c.loop-number-test.false in
    let all : length ext ≤ c.loop-number.number = omega (arith, count, past) in
    c.new.ensures ∙ c.loop-number.invariant.copied ∙ take_all c.loop-number.number ext all
