use Rattle.std.proofs.Common.{◌≡◌, ◌+◌, ◌++◌, List, length, map, ap, ◌∙◌, arith, rules}
use Rattle.std.specs.List.{filter}
use Rattle.wm_event.specs.declared.event.EventId.{EventId}
use Rattle.wm_event.specs.declared.event.EventId.TheVariants.{At}
use Rattle.wm_event.specs.Writes.{thread_keys, writes_byte}
use Rattle.wm_writers.specs.Fits.{fits}
use Rattle.wm_writers.proofs.FittingLemmas.{fitting-more}
use Rattle.wm_witness.proofs.choice.fitting_ids.Goals as goal

pub loop-thread-preserved : goal.loop-thread-preserved
loop-thread-preserved c =
    let run = c.args.start.now in
    let e = c.args.event.now in
    let k = c.args.byte in
    let t = c.loop-thread.thread in
    let size = ap length (c.threads-thread-end.ensures.value ∙ c.log.ensures.value) in
    let p = fits run.log run.initial e k in
    let writes : c.thread_writes_to-writes.result.now ≡ map At (filter (writes_byte run.log (e.address + k)) (thread_keys run.log t)) = search rules in
    let listed = map At (filter (writes_byte run.log (e.address + k)) (thread_keys run.log t)) in
    c.in_ok-add_fitting-2.ensures
    ∙ ap (λ (vs : List EventId). c.loop-thread.fit ++ filter p vs) writes
    ∙ ap (λ (vs : List EventId). vs ++ filter p listed) c.loop-thread.invariant
    ∙ fitting-more run.log run.initial e k t (omega (arith, size))
