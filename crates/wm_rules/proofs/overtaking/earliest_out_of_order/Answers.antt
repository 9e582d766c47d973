use Rattle.std.proofs.Common.{◌≡◌, ◌+◌, ◌∙◌, ℕ, Option, ap, arith, length, sym, subst}
use Rattle.wm_event.specs.declared.event.EventKey.{EventKey}
use Rattle.wm_event.specs.LoggedRun.{LoggedRun, execution}
use Rattle.wm_rules.specs.Earliest.{FindsBelow, earlier_of}
use Rattle.wm_rules.specs.Others.{IsOutOfOrder}
use Rattle.wm_rules.specs.Cases.{overtaking_number}
use Rattle.wm_rules.proofs.ThreadLemmas.{one_thread_more}
use Rattle.wm_rules.proofs.overtaking.earliest_out_of_order.Goals as goal

pub loop-thread-preserved : goal.loop-thread-preserved
loop-thread-preserved c =
    let x = execution c.args.relation.now in
    let P : EventKey → Type 0 = IsOutOfOrder c.args.relation.now c.args.event.now c.args.writer (overtaking_number c.args.case) in
    let is : c.earlier-earliest.result ≡ earlier_of x c.loop-thread.earliest c.first_in_thread-found.result =
    subst (λ (run : LoggedRun). c.earlier-earliest.result ≡ earlier_of (execution run) c.loop-thread.earliest c.first_in_thread-found.result) c.candidate-candidate.ensures.value c.earlier-earliest.ensures in
    subst (λ (r : Option EventKey). FindsBelow x (c.loop-thread.thread + 1) P r) (sym is)
    (one_thread_more x P c.loop-thread.thread c.loop-thread.earliest c.first_in_thread-found.result c.loop-thread.invariant c.first_in_thread-found.ensures)

pub returns : goal.returns
returns c =
    let x = execution c.args.relation.now in
    let P : EventKey → Type 0 = IsOutOfOrder c.args.relation.now c.args.event.now c.args.writer (overtaking_number c.args.case) in
    let log : c.threads-thread-end.result.now ≡ c.args.relation.now.log = c.threads-thread-end.ensures.value ∙ c.log.ensures.value ∙ ap (λ (run : LoggedRun). run.log) c.candidate-candidate.ensures.value in
    let long = ap length log in
    let bound = c.loop-thread.auto.thread-end in
    let done = c.loop-thread-test.false in
    let all : c.loop-thread.thread ≡ length c.args.relation.now.log = omega arith in
    subst (λ (n : ℕ). FindsBelow x n P c.loop-thread.earliest) all c.loop-thread.invariant
