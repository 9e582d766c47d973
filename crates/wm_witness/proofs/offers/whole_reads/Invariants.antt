-- those so far are
use Rattle.std.specs.Prelude.{All}
use Rattle.wm_witness.specs.Offers.{IsWhole}
use Rattle.wm_witness.proofs.offers.whole_reads.Given as goal

abbrev pub invariant-loop-event : goal.invariant-loop-event
invariant-loop-event l = All (IsWhole l.start.log) l.wholes.items
