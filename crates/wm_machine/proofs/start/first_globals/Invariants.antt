use Rattle.std.proofs.Common.{◌≡◌, take, map}
use Rattle.wm_machine.specs.Values.{initial_of}
use Rattle.wm_machine.proofs.start.first_globals.Given as goal

abbrev pub invariant-loop-global : goal.invariant-loop-global
invariant-loop-global l = l.values ≡ map initial_of (take l.global-index l.module.globals)
