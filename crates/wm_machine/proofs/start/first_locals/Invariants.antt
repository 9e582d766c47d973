use Rattle.std.proofs.Common.{◌≡◌, take}
use Rattle.wm_machine.specs.Start.{arguments}
use Rattle.wm_machine.proofs.start.first_locals.Given as goal

abbrev pub invariant-loop-index : goal.invariant-loop-index
invariant-loop-index l = l.values.items ≡ arguments (take l.index l.params) (take l.index l.args)
