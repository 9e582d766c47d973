use Rattle.std.proofs.Common.{◌≡◌, ◌+◌, ◌<◌, ap, arith, get_or, length, subst, sym, slice_set, ◌∙◌}
use Rattle.std.proofs.lemmas.List.{length-set}
use Rattle.std.proofs.lemmas.Option.{slice_get_within}
use Rattle.wm_event.specs.declared.event.EventKey.{EventKey}
use Rattle.wm_event.specs.LoggedRun.{execution}
use Rattle.wm_hb.specs.Cycle.{IsReady, IsSchedule}
use Rattle.wm_hb.proofs.CycleLaws.{remaining, remaining-less, schedule-more, thread-of, with_next}
use Rattle.wm_hb.proofs.cycle.schedule.Goals as goal

pub loop-event-smaller : goal.loop-event-smaller
loop-event-smaller c =
    let log = c.args.candidate.now.log in
    let s = c.loop-event.scheduled.items in
    let event = c.in-Some.event in
    let found = c.in-Some.ensures in
    let number : event.number ≡ get_or c.as_slice.result.now event.thread 0 = ap (λ (k : EventKey). k.number) found.0 in
    let thread = thread-of log event.thread (get_or c.as_slice.result.now event.thread 0) found.1.there in
    let inside = slice_get_within log event.thread thread.0 thread.1 in
    let size = c.loop-event.invariant.size in
    let same = c.as_slice.ensures.value in
    let less : remaining log (with_next s event.thread) < remaining log s =
    remaining-less log s event.thread thread.0 thread.1 (omega (arith, inside, size)) (subst (λ l. get_or l event.thread 0 < length thread.0.events) same thread.2) in
    subst (λ n. remaining log (slice_set s event.thread (n + 1)) < remaining log s) (sym (number ∙ ap (λ l. get_or l event.thread 0) same)) less

pub loop-event-preserved : goal.loop-event-preserved
loop-event-preserved c =
    let x = execution c.args.candidate.now in
    let log = c.args.candidate.now.log in
    let s = c.loop-event.scheduled.items in
    let event = c.in-Some.event in
    let found = c.in-Some.ensures in
    let same = c.as_slice.ensures.value in
    let number : event.number ≡ get_or c.as_slice.result.now event.thread 0 = ap (λ (k : EventKey). k.number) found.0 in
    let ready : IsReady x s event.thread = subst (λ l. IsReady x l event.thread) same found.1 in
    let thread = thread-of log event.thread (get_or s event.thread 0) ready.there in
    let inside = slice_get_within log event.thread thread.0 thread.1 in
    let size = c.loop-event.invariant.size in
    let more : IsSchedule x (with_next s event.thread) = schedule-more x s c.loop-event.invariant.is event.thread (omega (arith, inside, size)) ready in
    record {
      size = length-set s event.thread (event.number + 1) ∙ size;
      is = subst (λ n. IsSchedule x (slice_set s event.thread (n + 1))) (sym (number ∙ ap (λ l. get_or l event.thread 0) same)) more;
    }
