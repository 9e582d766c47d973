use Rattle.std.proofs.Common.{◌≡◌, ◌+◌, get_or, length, Some, refl, sym, ap, subst, ◌∙◌, arith}
use Rattle.std.specs.Prelude.{slice_get}
use Rattle.std.proofs.lemmas.Option.{slice_get-get_or}
use Rattle.std.proofs.lemmas.Result.{on_ok_weaker}
use Rattle.wm_event.specs.Op.{event_made}
use Rattle.wm_event.specs.declared.event.Event.{Event}
use Rattle.wm_event.specs.declared.op.OpFields.{OpFields}
use Rattle.wm_explore.specs.Search.{AddsRead}
use Rattle.wm_explore.specs.Values.{ReadsAll}
use Rattle.wm_explore.specs.Writing.{ListsWriting}
use Rattle.wm_explore.proofs.Beginnings.{count_at}
use Rattle.wm_explore.specs.Turns.{AreNexts, IsTurn}
use Rattle.wm_explore.specs.declared.search.Progress.{Progress}
use Rattle.wm_explore.proofs.Children.{marked_is_state}
use Rattle.wm_explore.proofs.Extending.{waits}
use Rattle.wm_explore.proofs.Progressing.{same_more}
use Rattle.wm_explore.proofs.Resting.{marked, marked_set, stuck_when_marked}
use Rattle.wm_explore.proofs.ReadsOf.{ReadSoFar, marked_noted, pushed_left, pushed_more, pushed_progress, read_any, read_none, reads_all}
use Rattle.wm_explore.proofs.search.add_reads.Goals as goal

pub loop-place-init : goal.loop-place-init
loop-place-init c = record {
  so_far = λ starts fine progress. read_none c.args.module.now starts c.args.limits.events c.args.state fine c.args.thread c.args.op c.args.progress.now c.as_slice-values.result.now progress;
}

pub add_read-requires-clause-writing : goal.add_read-requires-clause-writing
add_read-requires-clause-writing c =
    let s = c.args.state in
    let op = subst (λ (o : OpFields). ListsWriting s o.address o.width c.in_ok-writing.writing) c.fields.ensures.value c.in_ok-writing.ensures in
    let here = subst (ListsWriting s c.args.op.address c.args.op.width) (sym c.as_slice-writing.ensures) op in
    subst (λ (e : Event). ListsWriting s e.address e.width c.as_slice-writing.result.now) (sym c.next_event-event.ensures.event) here

pub loop-place-preserved : goal.loop-place-preserved
loop-place-preserved c = record {
  so_far = λ starts fine progress.
      let s = c.args.state in
      let k = c.args.thread in
      let n = c.loop-place.place in
      let r = get_or c.as_slice-values.result.now n 0 in
      let t = c.requires.next.thread in
      let at_t = c.requires.next.is_thread in
      let at_r : slice_get c.as_slice-values.result.now n ≡ Some r = slice_get-get_or c.as_slice-values.result.now n 0 (let lt = c.loop-place-test.true in let most = c.copies_of-copies.ensures.most in omega (arith, lt, most)) in
      let event : c.next_event-event.result ≡ event_made (record { thread = k; number = length t.events }) c.args.op r =
      c.next_event-event.ensures.event ∙ ap (λ i. event_made (record { thread = k; number = i }) c.args.op r) (count_at s.log k t at_t) in
      let initial = c.initial-initial.result.now in
      let added = subst (λ e. AddsRead initial c.args.nexts.now k e s c.loop-place.progress.work.items c.add_read.new.work.items) event c.in_ok-add_read.ensures in
      read_any c.args.module.now starts c.args.limits.events s fine k c.args.op c.args.progress.now c.as_slice-values.result.now c.loop-place.progress
      (record { work = c.add_read.new.work; finished = c.loop-place.progress.finished; met = c.loop-place.progress.met }) n r at_r (c.loop-place.invariant.so_far starts fine progress) refl refl t at_t
      c.requires.noted c.args.nexts.now c.requires.nexts initial c.initial-initial.ensures added;
}

pub add_last_read-requires-clause-writing : goal.add_last_read-requires-clause-writing
add_last_read-requires-clause-writing c =
    let s = c.args.state in
    let op = subst (λ (o : OpFields). ListsWriting s o.address o.width c.in_ok-writing.writing) c.fields.ensures.value c.in_ok-writing.ensures in
    let here = subst (ListsWriting s c.args.op.address c.args.op.width) (sym c.as_slice-writing.ensures) op in
    subst (λ (e : Event). ListsWriting s e.address e.width c.as_slice-writing.result.now) (sym c.next_event-event-then-copies-values.ensures.event) here

pub returns-then-copies-values : goal.returns-then-copies-values
returns-then-copies-values c =
    on_ok_weaker c.add_last_read.result
    (λ adds starts fine progress.
    let m = c.args.module.now in
    let s = c.args.state in
    let k = c.args.thread in
    let events = c.args.limits.events in
    let values = c.as_slice-values.result.now in
    let q = c.loop-place.progress in
    let next : Progress = record { work = c.add_last_read.new.work; finished = q.finished; met = q.met } in
    let n = c.copies_of-copies.result in
    let here : c.loop-place.place ≡ n = (let past = c.loop-place-test.false in let end = c.loop-place.auto.place-end in omega (arith, past, end)) in
    let so = subst (ReadSoFar m starts events s k c.args.op c.args.progress.now q values) here (c.loop-place.invariant.so_far starts fine progress) in
    let r = get_or values n 0 in
    let t = c.requires.next.thread in
    let at_t = c.requires.next.is_thread in
    let event : c.next_event-event-then-copies-values.result ≡ event_made (record { thread = k; number = length t.events }) c.args.op r =
    c.next_event-event-then-copies-values.ensures.event ∙ ap (λ i. event_made (record { thread = k; number = i }) c.args.op r) (count_at s.log k t at_t) in
    let initial = c.initial-initial.result.now in
    let added = subst (λ e. AddsRead initial c.args.nexts.now k e s q.work.items next.work.items) event adds in
    let last =
    read_any m starts events s fine k c.args.op c.args.progress.now values q next n r (slice_get-get_or values n 0 c.if-copies-values.true) so refl refl t at_t c.requires.noted c.args.nexts.now
    c.requires.nexts initial c.initial-initial.ensures added in
    let all : ReadsAll s initial c.args.op c.mark-mark.result values =
    subst (λ vs. ReadsAll s initial c.args.op c.mark-mark.result vs) (sym c.as_slice-values.ensures) (subst (λ op. ReadsAll s initial op c.mark-mark.result c.in_ok-values.values) c.fields-2.ensures.value c.in_ok-values.ensures) in
    let marks = marked_set s.marks k (Some (length s.arrived)) in
    let stuck = stuck_when_marked m events s c.args.nexts.now k c.args.op c.requires.nexts c.requires.next (c.copies_of-copies.ensures.rest c.if-copies-values.true) in
    reads_all m starts events s fine k c.args.op c.args.progress.now values next (n + 1) c.copies_of-copies.ensures.one_less last c.requires.reads c.requires.next initial c.initial-initial.ensures
    c.mark-mark.result c.mark-mark.ensures all (marked s k) refl refl marks next (same_more events next) last.progress
    (waits m starts events (marked s k) (marked_is_state starts s (marked s k) k fine refl refl marks) next last.progress stuck).takes) c.add_last_read.ensures

pub returns-in-Stuck : goal.returns-in-Stuck
returns-in-Stuck c starts fine progress =
    let m = c.args.module.now in
    let s = c.args.state in
    let values = c.as_slice-values.result.now in
    let all : ReadsAll s c.initial-initial.result.now c.args.op c.mark-mark.result values =
    subst (λ vs. ReadsAll s c.initial-initial.result.now c.args.op c.mark-mark.result vs) (sym c.as_slice-values.ensures) (subst (λ op. ReadsAll s c.initial-initial.result.now op c.mark-mark.result c.in_ok-values.values) c.fields-2.ensures.value c.in_ok-values.ensures) in
    let q = c.loop-place.progress in
    let so = c.loop-place.invariant.so_far starts fine progress in
    let waiting = c.in_ok-waiting.waiting in
    let is = c.in_ok-waiting.ensures in
    let nexts = subst (λ log. AreNexts m log c.args.nexts.now) (sym is.log) c.requires.nexts in
    let stuck = subst (IsTurn m c.args.limits.events waiting) c.in-Stuck.is (c.turn_of.ensures m nexts) in
    reads_all m starts c.args.limits.events s fine c.args.thread c.args.op c.args.progress.now values q c.loop-place.place (let past = c.loop-place-test.false in let all = c.if-copies-values.false in omega (arith, past, all)) so c.requires.reads c.requires.next
    c.initial-initial.result.now c.initial-initial.ensures c.mark-mark.result c.mark-mark.ensures all waiting is.log is.arrived is.marks q (same_more c.args.limits.events q) so.progress
    (waits m starts c.args.limits.events waiting (marked_is_state starts s waiting c.args.thread fine is.log is.arrived is.marks) q so.progress stuck).takes

pub returns : goal.returns
returns c starts fine progress =
    let m = c.args.module.now in
    let s = c.args.state in
    let values = c.as_slice-values.result.now in
    let all : ReadsAll s c.initial-initial.result.now c.args.op c.mark-mark.result values =
    subst (λ vs. ReadsAll s c.initial-initial.result.now c.args.op c.mark-mark.result vs) (sym c.as_slice-values.ensures) (subst (λ op. ReadsAll s c.initial-initial.result.now op c.mark-mark.result c.in_ok-values.values) c.fields-2.ensures.value c.in_ok-values.ensures) in
    let q = c.loop-place.progress in
    let so = c.loop-place.invariant.so_far starts fine progress in
    let waiting = c.in_ok-waiting.waiting in
    let is = c.in_ok-waiting.ensures in
    let next : Progress = record { work = c.push.new.self; finished = q.finished; met = q.met } in
    let pushed = c.in_ok-push-in_default.ensures.items in
    reads_all m starts c.args.limits.events s fine c.args.thread c.args.op c.args.progress.now values q c.loop-place.place (let past = c.loop-place-test.false in let all = c.if-copies-values.false in omega (arith, past, all)) so c.requires.reads c.requires.next
    c.initial-initial.result.now c.initial-initial.ensures c.mark-mark.result c.mark-mark.ensures all waiting is.log is.arrived is.marks next (pushed_more m starts c.args.limits.events q next refl refl waiting pushed)
    (pushed_progress m starts c.args.limits.events q next refl refl waiting pushed so.progress (marked_is_state starts s waiting c.args.thread fine is.log is.arrived is.marks)
    (marked_noted m s waiting c.requires.noted is.log is.arrived is.pasts (is.known m c.requires.nexts))) (λ x _ _ on. pushed_left m starts c.args.limits.events q next refl refl waiting pushed x on)
