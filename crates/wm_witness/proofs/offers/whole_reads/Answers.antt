use Rattle.std.specs.Prelude.{All}
use Rattle.wm_event.specs.declared.event.Event.{Event}
use Rattle.wm_witness.specs.Offers.{IsWhole}
use Rattle.wm_witness.proofs.NodeLaw.{all-pushed}
use Rattle.wm_witness.proofs.offers.whole_reads.Goals.{then-ne+then-is_written_whole+in_ok-push, else-ne}
use Rattle.wm_witness.proofs.offers.whole_reads.Goals as goal

pub loop-event-preserved : goal.loop-event-preserved
loop-event-preserved c =
    let P : Event → Type 0 = IsWhole c.args.start.now.log in
    let next : All P c.if-ne.wholes.items = elim c.if-ne.branch [
      | then-ne+then-is_written_whole+in_ok-push w ↦ rw w.wholes-is (all-pushed P c.loop-event.wholes.items w.push.new.self.items _ w.in_ok-push.ensures.items c.loop-event.invariant
          (w.is_written_whole.ensures w.if-is_written_whole.true))
      | else-ne w ↦ rw w.wholes-is c.loop-event.invariant
    ] in
    next
