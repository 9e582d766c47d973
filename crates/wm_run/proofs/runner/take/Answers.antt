use Rattle.std.proofs.Common.{◌≡◌, ◌∙◌, Some, length, refl, slice_get}
use Rattle.std.proofs.lemmas.Option.{slice_get_read}
use Rattle.std.proofs.lemmas.Result.{on_ok_weaker}
use Rattle.wm_run.proofs.Turns.{all_set, program_at, turn_drained, turn_stepped}
use Rattle.wm_run.proofs.runner.take.Goals as goal

pub returns-in-Step : goal.returns-in-Step
returns-in-Step c =
    let m = c.args.module.now in
    let xs = c.args.runners.now.items in
    let t = c.in-Step.thread in
    let there = rw c.in-Step.is at c.requires.there in
    let at : slice_get xs t ≡ Some c.index_mut.result.now = slice_get_read xs (length xs) t c.index_mut.result.now refl there c.index_mut.ensures.value in
    let programs = all_set m xs t c.step.new.runner c.requires.set.programs (c.step.ensures.same ∙ program_at m xs t c.index_mut.result.now c.requires.set.programs at) in
    rw c.in-Step.is
    (on_ok_weaker c.step.result
    (turn_stepped m c.args.limit t xs c.args.recorder.now c.step.new.recorder c.index_mut.result.now c.step.new.runner c.requires.set at programs) c.step.ensures.moves)

pub returns-in-Drain : goal.returns-in-Drain
returns-in-Drain c =
    rw c.in-Drain.is
    (on_ok_weaker c.drain.result (turn_drained c.args.module.now c.args.limit _ _ c.args.runners.now.items c.args.recorder.now c.drain.new.recorder c.requires.set refl) c.drain.ensures)

pub returns-in-DrainAt : goal.returns-in-DrainAt
returns-in-DrainAt c =
    rw c.in-DrainAt.is
    (on_ok_weaker c.drain_at.result (turn_drained c.args.module.now c.args.limit _ _ c.args.runners.now.items c.args.recorder.now c.drain_at.new.recorder c.requires.set refl) c.drain_at.ensures)
