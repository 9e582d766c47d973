use Rattle.std.proofs.Common.{◌≡◌, ◌∙◌, subst}
use Rattle.std.proofs.lemmas.Result.{IfOk-weaker}
use Rattle.wm_litmus.specs.Drive.{PrintsRun}
use Rattle.wm_litmus.specs.Outcomes.{outcome_text}
use Rattle.wm_litmus.specs.Own.{run_text}
use Rattle.wm_litmus.proofs.drive.driven.Goals as goal

pub returns : goal.returns
returns g c =
    let run = c.args.run.now in
    let v = c.in_ok-checked.checked.verdict in
    let outcome : c.as_str.result.now ≡ outcome_text run.log = c.as_str.ensures.value ∙ c.in_ok-outcome.ensures in
    let document : c.as_str-2.result.now ≡ run_text run = c.as_str-2.ensures.value ∙ c.in_ok-checked.ensures.document in
    IfOk-weaker c.driven.result _ _
    (λ answer prints module_bytes made. record {
      verdict = v;
      says = c.in_ok-checked.ensures.says module_bytes made.modules;
      own = c.in_ok-checked.ensures.own module_bytes made;
      prints = subst (λ d. PrintsRun (outcome_text run.log) v d answer) document (subst (λ o. PrintsRun o v c.as_str-2.result.now answer) outcome prints);
    })
    c.driven.ensures
