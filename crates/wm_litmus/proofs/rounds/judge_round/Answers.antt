use Rattle.std.proofs.Common.{◌∙◌, ap, subst}
use Rattle.wm_check.specs.Reading.{SaysOver}
use Rattle.wm_check.specs.Texts.{verdict_status, verdict_text}
use Rattle.wm_litmus.specs.Own.{IsMadeOf, run_text}
use Rattle.wm_litmus.specs.Prints.{ended}
use Rattle.wm_litmus.proofs.OwnVerdicts.{only_large}
use Rattle.wm_litmus.proofs.rounds.judge_round.Goals as goal

pub returns-in-Allowed : goal.returns-in-Allowed
returns-in-Allowed g c = record {
  round = c.requires.round;
  certificate = c.in-Allowed.field-0;
  says = subst (λ v. SaysOver c.args.module.now (run_text c.args.run.now) v) c.in-Allowed.is c.in_ok-checked.ensures.says;
}

pub returns : goal.returns
returns g c = λ module_bytes modules.
    let run = c.args.run.now in
    let v = c.in_ok-checked.checked.verdict in
    let prints = c.in_ok-of_verdict.ensures in
    let made : IsMadeOf module_bytes c.args.module.now run = record { modules = modules; own = c.requires.round.own; within = c.requires.within } in
    let large = only_large run v c.in_default.not-Allowed (c.in_ok-checked.ensures.own module_bytes made) in
    record {
      is_too_large = record { round = c.requires.round; past = large.1 };
      status_is = prints.status_is ∙ ap verdict_status large.0;
      text_is = prints.text_is ∙ ap (λ w. ended (verdict_text w)) large.0;
    }
