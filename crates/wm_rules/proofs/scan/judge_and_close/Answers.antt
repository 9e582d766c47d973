-- What the scan finds is the first fault, and where it finds none the run is valid.
use Rattle.std.proofs.Common.{◌≡◌, ◌≤◌, sym, None, Some, [], subst, ◌∙◌}
use Rattle.wm_event.specs.LoggedRun.{LoggedRun, execution}
use Rattle.wm_event.specs.declared.rule.RuleFault.{RuleFault}
use Rattle.wm_event.specs.Faults.{Breaks, rule_number}
use Rattle.wm_hb.specs.Scan.{Finds}
use Rattle.wm_rules.proofs.CaseLemmas.{of_all}
use Rattle.wm_rules.proofs.ValidLaws.{is_valid, later_rule}
use Rattle.wm_rules.proofs.scan.judge_and_close.Goals as goal

pub first_fault-requires-after_bounds : goal.first_fault-requires-after_bounds
first_fault-requires-after_bounds g c κs within =
    let same : c.in_ok-relation-in-Ok.relation ≡ c.args.candidate.now = c.in_ok-relation-in-Ok.ensures ∙ c.in-Ok.ensures.value in
    subst (λ (run : LoggedRun). (f : RuleFault) → Breaks (execution run) f → 3 ≤ rule_number f.rule) (sym same)
    (later_rule (execution c.args.candidate.now) c.in_default.ensures c.in-Ok.ensures.agrees)

pub returns-in-Some-first_fault : goal.returns-in-Some-first_fault
returns-in-Some-first_fault g c = record {
  judged = of_all (execution c.args.candidate.now) c.in-Some-first_fault.fault
      (subst (λ (run : LoggedRun). Finds (execution run) [] (Some c.in-Some-first_fault.fault)) (c.in_ok-relation-in-Ok.ensures ∙ c.in-Ok.ensures.value) c.in-Some-first_fault.ensures);
  closed = tt;
}

pub returns-in-None-clause-judged : goal.returns-in-None-clause-judged
returns-in-None-clause-judged g c =
    is_valid c.args.candidate.now (subst (λ (run : LoggedRun). Finds (execution run) [] None) (c.in_ok-relation-in-Ok.ensures ∙ c.in-Ok.ensures.value) c.in-None.ensures)
