use Rattle.std.proofs.Common.{◌≡◌, List, length, refl, sym, ap, ◌∙◌, subst, arith}
use Rattle.wm_event.specs.declared.event.EventId.{EventId}
use Rattle.wm_writers.specs.Fits.{fitting}
use Rattle.wm_witness.proofs.ChoiceLaw.{AreSeen, nothing-found, only-found, seen-excluded, seen-first}
use Rattle.wm_witness.proofs.choice.choice_of.Goals as goal

pub loop-writer-preserved-then-would_tear : goal.loop-writer-preserved-then-would_tear
loop-writer-preserved-then-would_tear c =
    seen-excluded c.args.start.now c.args.assumed.now c.args.event.now c.args.byte c.as_slice-writer-items.result.now (c.as_slice-writer-items.ensures ∙ c.in_ok-fit.ensures)
    c.loop-writer.writer-index c.loop-writer-test.true c.loop-writer.found c.loop-writer.invariant (c.if-would_tear.ensures refl c.args.byte)

pub loop-writer-preserved-then-is_excluded : goal.loop-writer-preserved-then-is_excluded
loop-writer-preserved-then-is_excluded c =
    seen-excluded c.args.start.now c.args.assumed.now c.args.event.now c.args.byte c.as_slice-writer-items.result.now (c.as_slice-writer-items.ensures ∙ c.in_ok-fit.ensures)
    c.loop-writer.writer-index c.loop-writer-test.true c.loop-writer.found c.loop-writer.invariant (c.if-is_excluded.ensures refl)

pub loop-writer-preserved : goal.loop-writer-preserved
loop-writer-preserved c =
    seen-first c.args.start.now c.args.assumed.now c.args.event.now c.args.byte c.as_slice-writer-items.result.now (c.as_slice-writer-items.ensures ∙ c.in_ok-fit.ensures)
    c.loop-writer.writer-index c.loop-writer-test.true c.loop-writer.found c.loop-writer.invariant (sym c.if-is_some.ensures)

pub returns-in-None : goal.returns-in-None
returns-in-None c =
    let ids : List EventId = c.as_slice-writer-items.result.now in
    let all : ids ≡ fitting c.args.start.now.log c.args.start.now.initial c.args.event.now c.args.byte = c.as_slice-writer-items.ensures ∙ c.in_ok-fit.ensures in
    let ended : c.loop-writer.writer-index ≡ length ids = (let low = c.loop-writer-test.false in let high = c.loop-writer.auto.writer-index-end in omega (arith, low, high)) in
    let over : c.loop-writer.writer-index ≡ length (fitting c.args.start.now.log c.args.start.now.initial c.args.event.now c.args.byte) = ended ∙ ap length all in
    nothing-found c.args.start.now c.args.assumed.now c.args.event.now c.requires.event c.args.byte c.requires.byte c.loop-writer.found
    (subst (λ n. AreSeen c.args.start.now c.args.assumed.now c.args.event.now c.args.byte n c.loop-writer.found) over c.loop-writer.invariant)
    c.in-None.is

pub returns : goal.returns
returns c =
    let ids : List EventId = c.as_slice-writer-items.result.now in
    let all : ids ≡ fitting c.args.start.now.log c.args.start.now.initial c.args.event.now c.args.byte = c.as_slice-writer-items.ensures ∙ c.in_ok-fit.ensures in
    let ended : c.loop-writer.writer-index ≡ length ids = (let low = c.loop-writer-test.false in let high = c.loop-writer.auto.writer-index-end in omega (arith, low, high)) in
    let over : c.loop-writer.writer-index ≡ length (fitting c.args.start.now.log c.args.start.now.initial c.args.event.now c.args.byte) = ended ∙ ap length all in
    only-found c.args.start.now c.args.assumed.now c.args.event.now c.requires.event c.args.byte c.requires.byte c.loop-writer.found
    (subst (λ n. AreSeen c.args.start.now c.args.assumed.now c.args.event.now c.args.byte n c.loop-writer.found) over c.loop-writer.invariant)
    c.in-Some.writer c.in-Some.is
