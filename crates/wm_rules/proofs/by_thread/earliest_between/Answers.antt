use Rattle.std.proofs.Common.{◌≡◌, ◌+◌, Option, sym, subst}
use Rattle.wm_event.specs.declared.event.EventKey.{EventKey}
use Rattle.wm_event.specs.LoggedRun.{LoggedRun, execution}
use Rattle.wm_rules.specs.Earliest.{FindsBelow, earlier_of}
use Rattle.wm_rules.specs.Others.{WritesBetween}
use Rattle.wm_rules.proofs.ThreadLemmas.{one_thread_more}
use Rattle.wm_rules.proofs.by_thread.earliest_between.Goals as goal

pub loop-thread-preserved : goal.loop-thread-preserved
loop-thread-preserved c =
    let x = execution c.args.relation.now in
    let P : EventKey → Type 0 = WritesBetween c.args.relation.now c.args.event.now c.args.byte c.args.writer in
    let is : c.earlier-earliest.result ≡ earlier_of x c.loop-thread.earliest c.first_in_thread-found.result =
    subst (λ (run : LoggedRun). c.earlier-earliest.result ≡ earlier_of (execution run) c.loop-thread.earliest c.first_in_thread-found.result) c.candidate-candidate.ensures.value c.earlier-earliest.ensures in
    subst (λ (r : Option EventKey). FindsBelow x (c.loop-thread.thread + 1) P r) (sym is)
    (one_thread_more x P c.loop-thread.thread c.loop-thread.earliest c.first_in_thread-found.result c.loop-thread.invariant c.first_in_thread-found.ensures)
