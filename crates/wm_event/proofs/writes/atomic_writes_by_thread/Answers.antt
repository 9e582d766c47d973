use Rattle.std.proofs.Common.{◌≡◌, ◌∙◌, List, Some, slice_get, ap, sym, subst, arith}
use Rattle.std.proofs.lemmas.Option.{slice_get-get_or}
use Rattle.wm_event.specs.declared.log.ThreadLog.{ThreadLog}
use Rattle.wm_event.specs.AtomicWrites.{AreAtomicWrites}
use Rattle.wm_event.proofs.WritesLemmas.{thread_more}
use Rattle.wm_event.proofs.writes.atomic_writes_by_thread.Goals as goal

pub loop-thread-preserved : goal.loop-thread-preserved
loop-thread-preserved c =
    let log = c.args.log.now in
    let n = c.loop-thread.thread-index in
    let there : slice_get log n ≡ Some c.thread-item.result = subst (λ (ts : List ThreadLog). slice_get ts n ≡ Some c.thread-item.result) c.threads-thread-items.ensures.value (slice_get-get_or c.threads-thread-items.result.now n c.thread-item.result (omega arith) ∙ ap Some (sym c.thread-item.is)) in
    thread_more (AreAtomicWrites log) log c.loop-thread.by_thread.items _ n c.thread-item.result c.as_slice.result.now c.in_ok-of_order.field-0 c.loop-thread.invariant there
    (c.as_slice.ensures.value ∙ c.in_ok-keys.ensures) c.in_ok-of_order.ensures c.in_ok-push.ensures.items
