use Rattle.std.proofs.Common.{◌≡◌, ◌<◌, get_or, length, arith, [], ◌∷◌, rules, refl}
use Rattle.wm_event.specs.Faults.{Breaks, rank}
use Rattle.wm_rules.specs.Late.{late_number}
use Rattle.wm_event.proofs.Scan.{scan-found, scan-more, none-found}
use Rattle.wm_event.proofs.LogLemmas.{StandsIn, stands_in, blank, event_inside}
use Rattle.wm_event.specs.declared.rule.RuleFault.{RuleFault}
use Rattle.wm_event.specs.LoggedRun.{execution}
use Rattle.wm_hb.proofs.FaultLemmas.{fault_listed}
use Rattle.wm_hb.specs.Scan.{Finds}
use Rattle.wm_rules.proofs.scan.fault_in_thread.Goals as goal
use Rattle.wm_rules.proofs.scan.fault_in_thread.Goals.{In-loop-event}

stands : (c : In-loop-event) → StandsIn c.args.relation.now.log c.args.thread c.loop-event.event-index (get_or c.as_slice-event-items.result.now c.loop-event.event-index blank)
stands c =
    stands_in c.args.relation.now.log c.args.thread c.loop-event.event-index c.index-threads-thread.result c.as_slice-event-items.result.now
    (search rules) c.requires (search rules) (search rules) (search rules)

pub fault_at_event-fault-requires : goal.fault_at_event-fault-requires
fault_at_event-fault-requires c = (stands (goal.at.fault_at_event-fault-requires c).In-loop-event).listed

pub returns-then-is_some : goal.returns-then-is_some
returns-then-is_some c =
    let s = stands (goal.at.returns-then-is_some c).In-loop-event in
    let found : Finds (execution c.args.relation.now) (late_number c.args.rule ∷ c.args.thread ∷ c.loop-event.event-index ∷ []) c.fault_at_event-fault.result =
    rw (s.thread, s.number) at c.fault_at_event-fault.ensures in
    scan-found (rank (execution c.args.relation.now)) (Breaks (execution c.args.relation.now)) (late_number c.args.rule ∷ c.args.thread ∷ []) c.loop-event.event-index c.fault_at_event-fault.result
    (search rules) found c.loop-event.invariant (λ y p b. (y.event.number, (b.0, (b.1.0, (refl, tt)))))

pub loop-event-preserved : goal.loop-event-preserved
loop-event-preserved c =
    let s = stands (goal.at.loop-event-preserved c).In-loop-event in
    let found : Finds (execution c.args.relation.now) (late_number c.args.rule ∷ c.args.thread ∷ c.loop-event.event-index ∷ []) c.fault_at_event-fault.result =
    rw (s.thread, s.number) at c.fault_at_event-fault.ensures in
    scan-more (rank (execution c.args.relation.now)) (Breaks (execution c.args.relation.now)) (late_number c.args.rule ∷ c.args.thread ∷ []) c.loop-event.event-index c.fault_at_event-fault.result
    (search rules) found c.loop-event.invariant

pub returns : goal.returns
returns c =
    none-found (rank (execution c.args.relation.now)) (Breaks (execution c.args.relation.now)) (late_number c.args.rule ∷ c.args.thread ∷ []) c.loop-event.event-index
    (λ f h b. (f.event.number, inside f h b.1.0, (b.0, (b.1.0, (refl, tt))))) c.loop-event.invariant
  where
    inside : (f : RuleFault) → Breaks (execution c.args.relation.now) f → f.event.thread ≡ c.args.thread → f.event.number < c.loop-event.event-index
    inside f h t =
        let below : f.event.number < length c.as_slice-event-items.result.now =
        event_inside c.args.relation.now.log f.event c.args.thread c.index-threads-thread.result c.as_slice-event-items.result.now c.requires (search rules) (search rules) t (fault_listed (execution c.args.relation.now) f h) in
        omega arith
