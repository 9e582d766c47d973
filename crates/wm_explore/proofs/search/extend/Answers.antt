use Rattle.std.proofs.Common.{◌<◌, refl, rules, sym, ap, subst, ◌∙◌, arith}
use Rattle.std.proofs.lemmas.Option.{slice_get_within}
use Rattle.std.proofs.lemmas.Result.{on_ok_weaker}
use Rattle.wm_event.specs.Op.{event_made}
use Rattle.wm_event.specs.Event.{key_of}
use Rattle.wm_explore.specs.States.{IsChild, count_in}
use Rattle.wm_explore.specs.Turns.{IsTurn}
use Rattle.wm_explore.proofs.Beginnings.{count_at}
use Rattle.wm_explore.proofs.Extending.{at_bound, waits, writes}
use Rattle.wm_explore.proofs.Progressing.{bounded}
use Rattle.wm_explore.proofs.ReadsOf.{made_noted}
use Rattle.wm_explore.proofs.search.extend.Goals as goal

pub returns-in-Nothing : goal.returns-in-Nothing
returns-in-Nothing c = on_ok_weaker c.finish.result (λ step. step c.args.limits.events) c.finish.ensures

pub next_event-event-requires-clause-thread : goal.next_event-event-requires-clause-thread
next_event-event-requires-clause-thread c =
    let s = c.args.state in
    let turn = subst (IsTurn c.args.module.now c.args.limits.events s) c.in-Write.is (c.turn_of.ensures c.args.module.now c.requires.nexts) in
    slice_get_within s.log c.in-Write.thread turn.0.thread turn.0.is_thread

pub next_event-event-requires-clause-number : goal.next_event-event-requires-clause-number
next_event-event-requires-clause-number c =
    let s = c.args.state in
    let turn = subst (IsTurn c.args.module.now c.args.limits.events s) c.in-Write.is (c.turn_of.ensures c.args.module.now c.requires.nexts) in
    let count = count_at s.log c.in-Write.thread turn.0.thread turn.0.is_thread in
    let few = turn.0.few in
    let less : count_in s.log c.in-Write.thread < c.args.limits.events = omega (arith, count, few) in
    grind (less, arith, rules)

pub add_reads-requires-clause-reads : goal.add_reads-requires-clause-reads
add_reads-requires-clause-reads c = (subst (IsTurn c.args.module.now c.args.limits.events c.args.state) c.in-Read.is (c.turn_of.ensures c.args.module.now c.requires.nexts)).1

pub returns-in_ok-push-in-Write : goal.returns-in_ok-push-in-Write
returns-in_ok-push-in-Write c starts fine progress =
    let s = c.args.state in
    let are = c.requires.nexts in
    let turn = subst (IsTurn c.args.module.now c.args.limits.events s) c.in-Write.is (c.turn_of.ensures c.args.module.now are) in
    let t = turn.0.thread in
    let event = c.next_event-event.ensures.event ∙ ap (λ n. event_made (record { thread = c.in-Write.thread; number = n }) c.in-Write.op 0) (count_at s.log c.in-Write.thread t turn.0.is_thread) in
    writes c.args.module.now starts c.args.limits.events s fine c.args.progress.now progress c.in-Write.thread c.in-Write.op turn.0 turn.1
    (record { work = c.push.new.self; finished = c.args.progress.now.finished; met = c.args.progress.now.met }) refl refl c.in_ok-child-in-Write.child c.in_ok-push-in-Write.ensures.items
    (subst (λ e. IsChild c.in-Write.thread e s c.in_ok-child-in-Write.child) event c.in_ok-child-in-Write.ensures.child)
    (made_noted c.args.module.now starts c.initial-initial.result.now c.args.nexts.now c.in-Write.thread c.next_event-event.result s c.in_ok-child-in-Write.child t turn.0.is_thread (ap key_of event) fine
    (record {
      is_child = c.in_ok-child-in-Write.ensures.child;
      finds = λ knows.
          let initial = c.initial-initial.result.now in
          c.in_ok-child-in-Write.ensures.pasts initial knows (c.past_of_write-past.ensures initial c.next_event-event.result (sym c.key.ensures) knows);
      known = c.in_ok-child-in-Write.ensures.known;
    }) c.requires.noted are c.initial-initial.ensures)

pub returns-in-Bounded : goal.returns-in-Bounded
returns-in-Bounded c starts fine progress =
    let s = c.args.state in
    let are = c.requires.nexts in
    let turn = subst (IsTurn c.args.module.now c.args.limits.events s) c.in-Bounded.is (c.turn_of.ensures c.args.module.now are) in
    bounded c.args.module.now starts c.args.limits.events s c.args.progress.now c.meet.new.self progress (ap (λ v. v.items) c.meet.ensures.work) (ap (λ v. v.items) c.meet.ensures.finished)
    (λ log. c.meet.ensures.kept c.args.limits.events log)
    (λ x is on. c.meet.ensures.met c.args.limits.events x.log (at_bound c.args.module.now starts c.args.limits.events s fine c.args.progress.now progress c.in-Bounded.bound turn.1 turn.0 x is on))

pub returns-in-Stuck : goal.returns-in-Stuck
returns-in-Stuck c starts fine progress =
    let are = c.requires.nexts in
    waits c.args.module.now starts c.args.limits.events c.args.state fine c.args.progress.now progress (subst (IsTurn c.args.module.now c.args.limits.events c.args.state) c.in-Stuck.is (c.turn_of.ensures c.args.module.now are))
