use Rattle.std.proofs.Common.{◌≡◌, map, take}
use Rattle.wm_machine.specs.State.{position_of}
use Rattle.wm_run.specs.declared.runner.Runner.{Runner}
use Rattle.wm_run.proofs.scripts.tracing.positions_of.Given as goal

-- the positions of the first threads
abbrev pub invariant-loop-runner : goal.invariant-loop-runner
invariant-loop-runner l = l.positions.items ≡ map (λ (runner : Runner). position_of runner.thread) (take l.runner-index l.runners)
