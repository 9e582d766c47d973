use Rattle.std.proofs.Common.{◌≡◌, ◌∙◌, subst, sym}
use Rattle.wm_check.specs.Reading.{SaysOver}
use Rattle.wm_litmus.specs.Own.{run_text}
use Rattle.wm_litmus.proofs.OwnVerdicts.{IsReadAgain, OwnLaws, own_verdict}
use Rattle.wm_litmus.proofs.own.check_own.Goals as goal

pub returns-clause-says : goal.returns-clause-says
returns-clause-says g c =
    let bytes : c.as_bytes.result.now ≡ run_text c.args.run.now = c.as_bytes.ensures.value ∙ c.in_ok-document.ensures.text in
    subst (λ d. SaysOver c.args.module.now d c.into_verdict.result) bytes
    (subst (SaysOver c.args.module.now c.as_bytes.result.now) (sym c.into_verdict.ensures) c.in_ok-checked.ensures.verdict)

pub returns-clause-own : goal.returns-clause-own
returns-clause-own g c = λ module_bytes made.
    let run = c.args.run.now in
    let bytes : c.as_bytes.result.now ≡ run_text run = c.as_bytes.ensures.value ∙ c.in_ok-document.ensures.text in
    let v = c.into_verdict.result in
    let said = subst (λ d. SaysOver c.args.module.now d v) bytes (subst (SaysOver c.args.module.now c.as_bytes.result.now) (sym c.into_verdict.ensures) c.in_ok-checked.ensures.verdict) in
    let laws : OwnLaws = record {
      allowed = c.own_runs_are_allowed.ensures;
      limits = c.own_runs_are_within_limits.ensures;
      alone = c.one_verdict.ensures.allowed;
      too_large = c.one_verdict.ensures.too_large;
    } in
    own_verdict module_bytes c.args.module.now run v laws made (subst (λ text. IsReadAgain text run) c.in_ok-document.ensures.text c.in_ok-document.ensures.again) (said module_bytes made.modules)
