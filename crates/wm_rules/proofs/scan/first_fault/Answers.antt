-- The rules, one after the other.
use Rattle.std.proofs.Common.{◌+◌, ℕ, [], ◌∷◌, rules, subst, arith, sym, ◌∙◌}
use Rattle.wm_event.specs.Faults.{Breaks, rank}
use Rattle.wm_event.specs.LoggedRun.{execution}
use Rattle.wm_hb.specs.Scan.{Finds}
use Rattle.wm_event.proofs.Scan.{scan-more}
use Rattle.wm_rules.proofs.CaseLemmas.{late_at, rule_found}
use Rattle.wm_rules.proofs.scan.first_fault.Goals as goal

pub returns-then-is_some : goal.returns-then-is_some
returns-then-is_some g c =
    let number = late_at c.loop-rule.rule-index (search rules) in
    rule_found (execution c.args.relation.now) (c.loop-rule.rule-index + 3) c.fault_by_rule-fault.result (search rules)
    (subst (λ (n : ℕ). Finds (execution c.args.relation.now) (n ∷ []) c.fault_by_rule-fault.result) number c.fault_by_rule-fault.ensures) c.loop-rule.invariant

pub loop-rule-preserved : goal.loop-rule-preserved
loop-rule-preserved g c = λ j less f broken begins.
    let x = execution c.args.relation.now in
    let number = late_at c.loop-rule.rule-index (search rules) in
    let found = subst (λ (n : ℕ). Finds x (n ∷ []) c.fault_by_rule-fault.result) number c.fault_by_rule-fault.ensures in
    scan-more (rank x) (Breaks x) [] (c.loop-rule.rule-index + 3) c.fault_by_rule-fault.result (sym c.is_some.ensures ∙ c.if-is_some.false) found c.loop-rule.invariant j (omega arith) f broken begins
