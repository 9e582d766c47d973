use Rattle.std.proofs.Common.{◌≡◌, ◌++◌}
use Rattle.std.specs.Vec.Iter.{into_iter_items}
use Rattle.wm_logfile.specs.Reading.{firsts, seconds}
use Rattle.wm_logfile.proofs.items.unzipped.Given as goal

abbrev pub invariant-loop-first : goal.invariant-loop-first
invariant-loop-first g l =
    (l.firsts.items ≡ firsts l.yielded) × (l.seconds.items ≡ seconds l.yielded) × (l.yielded ++ into_iter_items l.first-iterator ≡ l.fn.pairs)
