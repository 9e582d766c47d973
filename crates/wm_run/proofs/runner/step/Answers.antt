use Rattle.std.proofs.Common.{◌≡◌, suc, ◌+◌, ◌≤◌, subst, sym, arith}
use Rattle.wm_run.specs.Runner.{Advances, RunnerStep, steps_on, thread_state}
use Rattle.wm_run.proofs.Turns.{rested}
use Rattle.wm_run.proofs.runner.step.Goals as goal

pub returns-in-Stepped-clause-moves : goal.returns-in-Stepped-clause-moves
returns-in-Stepped-clause-moves c =
    let t = c.args.number in
    let old = c.args.runner.now in
    let recorder = c.args.recorder.now in
    let new = c.advance.new.thread in
    let recorder' = c.advance.new.recorder in
    let moves = subst (Advances t old.thread recorder new recorder') c.in-Stepped.is c.in_ok-advance.ensures.moves in
    let below : suc old.made ≤ c.args.limit = omega (arith, c.if-runner-limit.false) in
    let next : suc old.made ≡ old.made + 1 = omega arith in
    steps_on (sym next) moves.0 (subst (λ n. RunnerStep old.thread.module t c.args.limit (thread_state old.thread old.made) recorder (thread_state new n) recorder') next (moves.1 old.made c.args.limit below))

pub returns-in-Rested-clause-moves : goal.returns-in-Rested-clause-moves
returns-in-Rested-clause-moves c =
    let t = c.args.number in
    let old = c.args.runner.now in
    let moves = subst (Advances t old.thread c.args.recorder.now c.advance.new.thread c.advance.new.recorder) c.in-Rested.is c.in_ok-advance.ensures.moves in
    rested t c.args.limit old c.args.recorder.now c.advance.new.thread c.advance.new.recorder moves
