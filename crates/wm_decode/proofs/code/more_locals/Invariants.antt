use Rattle.std.proofs.Common.{◌≡◌, ◌-◌, []}
use Rattle.wm_decode.specs.ReadingVectors.{more_at}
use Rattle.wm_decode.specs.ReadingParts.{local_step}
use Rattle.wm_decode.proofs.code.more_locals.Given as goal

abbrev pub invariant-loop : goal.invariant-loop
invariant-loop l = more_at (local_step l.most) (l.entries - l.counter) l.found l.rest ≡ more_at (local_step l.most) l.entries [] l.bytes
