use Rattle.std.proofs.Common.{◌≡◌, ◌++◌, take, map}
use Rattle.wm_machine.specs.Values.{zero_of}
use Rattle.wm_machine.proofs.locals.hold.Given as goal

abbrev pub invariant-loop-ty : goal.invariant-loop-ty
invariant-loop-ty l = l.values.items ≡ l.initial.values.items ++ map zero_of (take l.ty-index l.types)
