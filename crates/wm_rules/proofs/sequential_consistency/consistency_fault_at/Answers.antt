-- The cases, one after the other.
use Rattle.std.proofs.Common.{◌+◌, ℕ, [], ◌∷◌, rules, subst, arith, refl, sym, ◌∙◌}
use Rattle.wm_event.specs.Faults.{Breaks, rank}
use Rattle.wm_event.specs.LoggedRun.{execution}
use Rattle.wm_event.proofs.Scan.{scan-found, scan-more}
use Rattle.wm_hb.specs.Scan.{Finds}
use Rattle.wm_rules.proofs.CaseLemmas.{next_case, overtaking_at}
use Rattle.wm_rules.proofs.SequentialConsistencyLemmas.{consistency_case}
use Rattle.wm_rules.proofs.sequential_consistency.consistency_fault_at.Goals as goal

pub returns-then-is_some : goal.returns-then-is_some
returns-then-is_some c =
    let x = execution c.args.relation.now in
    let e = c.args.event.now in
    let start = 5 ∷ e.thread ∷ e.number ∷ c.args.byte ∷ [] in
    let number = overtaking_at c.loop-case.case-index (search rules) in
    let found = subst (λ (n : ℕ). Finds x (5 ∷ e.thread ∷ e.number ∷ c.args.byte ∷ n ∷ []) c.fault_of_case-fault.result) number c.fault_of_case-fault.ensures in
    scan-found (rank x) (Breaks x) start (c.loop-case.case-index + 1) c.fault_of_case-fault.result (sym c.is_some.ensures ∙ c.if-is_some.true) found c.loop-case.invariant
    (next_case x 5 e.thread e.number c.args.byte)

pub loop-case-preserved : goal.loop-case-preserved
loop-case-preserved c = λ j less f broken begins.
    let x = execution c.args.relation.now in
    let e = c.args.event.now in
    let start = 5 ∷ e.thread ∷ e.number ∷ c.args.byte ∷ [] in
    let number = overtaking_at c.loop-case.case-index (search rules) in
    let found = subst (λ (n : ℕ). Finds x (5 ∷ e.thread ∷ e.number ∷ c.args.byte ∷ n ∷ []) c.fault_of_case-fault.result) number c.fault_of_case-fault.ensures in
    scan-more (rank x) (Breaks x) start (c.loop-case.case-index + 1) c.fault_of_case-fault.result (sym c.is_some.ensures ∙ c.if-is_some.false) found c.loop-case.invariant j (omega arith) f broken begins

pub returns : goal.returns
returns c = λ f u.
    let within = consistency_case (execution c.args.relation.now) c.args.event.now c.args.byte c.args.writer c.requires.listed c.requires.writer f u in
    c.loop-case.invariant f.case (omega (arith, within.1)) f u.0 (u.1.0, (u.1.1.0, (u.1.1.1.0, (u.1.1.1.1.0, (refl, tt)))))
