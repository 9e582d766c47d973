use Rattle.std.proofs.Common.{◌∷◌, ◌++◌, [], List, get_or, ap, sym, ◌∙◌, arith, if◌then◌else◌}
use Rattle.wm_event.specs.declared.event.EventKey.{EventKey}
use Rattle.wm_event.specs.declared.writes.ByteWrite.{ByteWrite}
use Rattle.wm_event.specs.AtomicWrites.{begins_atomic}
use Rattle.wm_event.proofs.WritesLemmas.{writes_taken}
use Rattle.wm_event.proofs.atomic_writes.writes_of_width.Goals as goal

pub loop-place-preserved : goal.loop-place-preserved
loop-place-preserved c = λ a.
    let nowhere : EventKey = record { thread = 0; number = 0 } in
    let here : List ByteWrite = (if begins_atomic c.args.log.now c.args.width a (get_or c.args.order.now c.loop-place.place nowhere) then record { address = a; place = c.loop-place.place } ∷ [] else []) in
    c.in_ok-add_write.ensures a ∙ ap (λ (ws : List ByteWrite). ws ++ here) (c.loop-place.invariant a) ∙ sym (writes_taken (begins_atomic c.args.log.now c.args.width a) a c.args.order.now c.loop-place.place nowhere (omega arith))
