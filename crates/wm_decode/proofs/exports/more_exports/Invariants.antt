use Rattle.std.proofs.Common.{◌≡◌, ◌-◌, []}
use Rattle.wm_decode.specs.ReadingVectors.{more_at}
use Rattle.wm_decode.specs.ReadingParts.{export_step}
use Rattle.wm_decode.proofs.exports.more_exports.Given as goal

abbrev pub invariant-loop : goal.invariant-loop
invariant-loop l = more_at export_step (l.count - l.counter) l.found l.rest ≡ more_at export_step l.count [] l.bytes
