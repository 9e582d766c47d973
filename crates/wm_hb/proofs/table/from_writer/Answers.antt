use Rattle.std.proofs.Common.{length, refl}
use Rattle.wm_hb.proofs.TableLaws.{synchronized_below}
use Rattle.wm_hb.proofs.table.from_writer.Goals as goal

pub hop_from-requires-clause-there : goal.hop_from-requires-clause-there
hop_from-requires-clause-there c =
    synchronized_below c.args.candidate.now c.witness-order.ensures.order c.requires.agrees c.in_ok-place.place (length c.args.table.now) c.in-At.key c.args.reader
    c.in_ok-place.ensures.listed c.requires.stands (c.if-not-synchronizes.ensures.0 refl)
