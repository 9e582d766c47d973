use Rattle.std.proofs.Common.{◌≡◌, List, rules, subst}
use Rattle.wm_event.specs.declared.log.ThreadLog.{ThreadLog}
use Rattle.wm_replay.specs.declared.answer.ReplayAnswer.TheVariants.{Same}
use Rattle.wm_replay.specs.Comparison.{Replays}
use Rattle.wm_replay.specs.Replay.{AreRuns}
use Rattle.wm_rules.specs.Finding.{judgement_of}
use Rattle.wm_check.proofs.JudgedRuns.{compares_judged}
use Rattle.wm_check.proofs.checker.compare.Goals as goal

pub returns-clause-verdict : goal.returns-clause-verdict
returns-clause-verdict g c =
    let m = c.args.module.now in
    let run = c.args.candidate in
    let same : c.in_ok-answer.field-0.answer ≡ Same = search rules in
    let runs : AreRuns m c.log.result.now = subst (Replays m c.log.result.now) same c.in_ok-answer.ensures.answer in
    compares_judged m run (judgement_of c.in_ok-finding.finding) (subst (λ (log : List ThreadLog). AreRuns m log) c.log.ensures.value runs) c.in_ok-finding.ensures.judged
