use Rattle.std.proofs.Common.{◌≡◌, [], drop}
use Rattle.wm_decode.specs.Bounds.{profile}
use Rattle.wm_decode.specs.ReadingParts.{more_functions_at}
use Rattle.wm_decode.proofs.code.functions.Given as goal

abbrev pub invariant-loop-index : goal.invariant-loop-index
invariant-loop-index l = more_functions_at profile l.types (drop l.index-index l.indices) l.found l.rest ≡ more_functions_at profile l.types l.indices [] l.bytes
