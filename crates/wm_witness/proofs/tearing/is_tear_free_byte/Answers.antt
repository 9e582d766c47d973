use Rattle.std.proofs.Common.{◌≡◌, List, length, refl, ◌∙◌, subst, arith, inl, inr}
use Rattle.wm_event.specs.declared.event.EventId.{EventId}
use Rattle.wm_writers.specs.Fits.{fitting}
use Rattle.wm_witness.proofs.TearingLaw.{AreBefore, IsLikeOrExcluded, all-like, one-more}
use Rattle.wm_witness.proofs.tearing.is_tear_free_byte.Goals as goal

pub returns : goal.returns
returns c = λ t.
    let run = c.args.start.now in
    let assumed = c.args.assumed.now in
    let e = c.args.event.now in
    let k = c.args.byte in
    let ids : List EventId = c.as_slice-writer-items.result.now in
    let all : ids ≡ fitting run.log run.initial e k = c.as_slice-writer-items.ensures ∙ c.in_ok-fit.ensures in
    let ended : c.loop-writer.writer-index ≡ length ids = (let low = c.loop-writer-test.false in let high = c.loop-writer.auto.writer-index-end in omega (arith, low, high)) in
    let each : AreBefore (IsLikeOrExcluded run assumed e k) ids (length ids) = subst (AreBefore (IsLikeOrExcluded run assumed e k) ids) ended c.loop-writer.invariant in
    all-like run assumed e c.requires.event k c.requires.byte (subst (λ (xs : List EventId). AreBefore (IsLikeOrExcluded run assumed e k) xs (length xs)) all each)

pub loop-writer-preserved-then-is_like : goal.loop-writer-preserved-then-is_like
loop-writer-preserved-then-is_like c =
    one-more (IsLikeOrExcluded c.args.start.now c.args.assumed.now c.args.event.now c.args.byte) c.as_slice-writer-items.result.now c.loop-writer.writer-index c.loop-writer-test.true c.loop-writer.invariant
    (inr (c.if-is_like.ensures refl))

pub loop-writer-preserved : goal.loop-writer-preserved
loop-writer-preserved c =
    one-more (IsLikeOrExcluded c.args.start.now c.args.assumed.now c.args.event.now c.args.byte) c.as_slice-writer-items.result.now c.loop-writer.writer-index c.loop-writer-test.true c.loop-writer.invariant
    (inl (c.if-not-is_excluded.ensures refl))
