use Rattle.std.proofs.Common.{◌∙◌, ◌++◌, ◌∷◌, [], ap, map, sym, take}
use Rattle.std.proofs.lemmas.List.{map-append, take_more}
use Rattle.wm_machine.specs.State.{position_of}
use Rattle.wm_run.specs.declared.runner.Runner.{Runner}
use Rattle.wm_run.proofs.scripts.tracing.positions_of.Goals as goal

pub loop-runner-preserved : goal.loop-runner-preserved
loop-runner-preserved c =
    let runners = c.args.runners.now in
    let x = c.runner-item.result in
    rw (c.in_ok-push.ensures.items, c.loop-runner.invariant, c.position.ensures)
    (ap (λ (y : Runner). map (λ (runner : Runner). position_of runner.thread) (take c.loop-runner.runner-index runners) ++ position_of y.thread ∷ []) c.runner-item.is
    ∙ sym (ap (map (λ (runner : Runner). position_of runner.thread)) (take_more runners c.loop-runner.runner-index x c.loop-runner-test.true) ∙ map-append (λ (runner : Runner). position_of runner.thread) _ _))
