use Rattle.std.proofs.Common.{◌≡◌, ◌<◌, Some, ap, arith, length, refl, set, slice_get, subst, sym, ◌∙◌}
use Rattle.std.proofs.lemmas.Option.{slice_get_read}
use Rattle.wm_recorder.specs.Recorder.{steps_of}
use Rattle.wm_run.specs.declared.scripts.traced.TracedTurn.{TracedTurn}
use Rattle.wm_run.specs.Plan.{thread_of}
use Rattle.wm_run.specs.Traced.{pending}
use Rattle.wm_run.specs.Tracing.{TakesTraced}
use Rattle.wm_run.proofs.TracedPositions.{IsPositionAfter}
use Rattle.wm_run.proofs.TracedTurns.{takes_traced}
use Rattle.wm_run.proofs.scripts.tracing.take_traced.Goals as goal

pub returns : goal.returns
returns c =
    let m = c.args.module.now in
    let limit = c.args.limit in
    let turn = c.args.turn in
    let xs = c.args.runners.now.items in
    let r = c.args.recorder.now in
    let ps = c.args.positions.now.items in
    let ys = c.take.new.runners.items in
    let r' = c.take.new.recorder in
    let x = c.index.result.now in
    let y = c.index-2.result.now in
    let p = c.index-position.result.now in
    let after = c.position_after.result in
    let thread = c.thread-thread.result in
    let is : thread ≡ thread_of turn = c.thread-thread.ensures in
    let there : thread < length xs = omega (arith, c.requires.there, is) in
    let there_y : thread < length ys = omega (arith, there, c.in_ok-take.ensures.count) in
    let there_p : thread < length ps = omega (arith, there, c.requires.positions) in
    let at : slice_get xs (thread_of turn) ≡ Some x = ap (slice_get xs) (sym is) ∙ slice_get_read xs (length xs) thread x refl there c.index.ensures in
    let at_y : slice_get ys (thread_of turn) ≡ Some y = ap (slice_get ys) (sym is) ∙ slice_get_read ys (length ys) thread y refl there_y c.index-2.ensures in
    let at_p : slice_get ps (thread_of turn) ≡ Some p = ap (slice_get ps) (sym is) ∙ slice_get_read ps (length ps) thread p refl there_p c.index-position.ensures in
    let is_after : IsPositionAfter y p after = record { goes_on = c.position_after.ensures.goes_on; ended = c.position_after.ensures.ended } in
    let entry : TracedTurn = record { turn = turn; position = p; done = c.turn_ahead-done.result; pending = c.in_ok-pending.pending } in
    subst (λ n. TakesTraced m limit turn xs r ps entry ys r' (set ps n after)) (sym is)
    (takes_traced m limit turn xs r ps x y entry ys r' after c.requires.set at c.in_ok-take.ensures at_y refl c.turn_ahead-done.ensures at_p is_after
    (c.in_ok-pending.ensures ∙ ap (pending (steps_of r')) is))
