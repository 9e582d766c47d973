use Rattle.std.proofs.Common.{◌≡◌, ◌++◌}
use Rattle.wm_decode.specs.Parts.{locals_of}
use Rattle.wm_decode.proofs.code.add_locals.Given as goal

abbrev pub invariant-loop : goal.invariant-loop
invariant-loop l = l.found ≡ l.fn.found ++ locals_of l.counter l.ty
