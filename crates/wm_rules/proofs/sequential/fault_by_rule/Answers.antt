-- The threads, one after the other.
use Rattle.std.proofs.Common.{◌≡◌, length, rules, arith, [], ◌∷◌, sym, ◌∙◌}
use Rattle.wm_rules.specs.Late.{late_number}
use Rattle.wm_event.specs.LoggedRun.{execution}
use Rattle.wm_event.proofs.LogLemmas.{thread_inside}
use Rattle.wm_hb.proofs.Parts.{thread_found, threads_none}
use Rattle.wm_hb.proofs.FaultLemmas.{fault_listed}
use Rattle.wm_event.specs.Faults.{Breaks, rank}
use Rattle.wm_event.proofs.Scan.{scan-more}
use Rattle.wm_rules.proofs.sequential.fault_by_rule.Goals as goal

pub returns-then-is_some : goal.returns-then-is_some
returns-then-is_some c =
    thread_found (execution c.args.relation.now) (late_number c.args.rule) c.loop-thread.thread c.fault_in_thread-fault.result (search rules) c.fault_in_thread-fault.ensures c.loop-thread.invariant

pub returns : goal.returns
returns c =
    threads_none (execution c.args.relation.now) (late_number c.args.rule) c.loop-thread.thread
    (λ f h.
    let l = thread_inside c.args.relation.now.log f.event (fault_listed (execution c.args.relation.now) f h) in
    let end : c.loop-thread.thread ≡ length c.args.relation.now.log = search rules in
    omega arith)
    c.loop-thread.invariant

pub loop-thread-preserved : goal.loop-thread-preserved
loop-thread-preserved c =
    let x = execution c.args.relation.now in
    scan-more (rank x) (Breaks x) (late_number c.args.rule ∷ []) c.loop-thread.thread c.fault_in_thread-fault.result (sym c.is_some.ensures ∙ c.if-is_some.false) c.fault_in_thread-fault.ensures c.loop-thread.invariant
