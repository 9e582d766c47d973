use Rattle.std.proofs.Common.{◌≡◌, take, false}
use Rattle.wm_machine.specs.Start.{any_past}
use Rattle.wm_machine.proofs.start.any_past.Given as goal

abbrev pub invariant-loop-index : goal.invariant-loop-index
invariant-loop-index l = any_past (take l.index l.params) (take l.index l.args) ≡ false
