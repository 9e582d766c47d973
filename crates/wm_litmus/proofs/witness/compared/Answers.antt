use Rattle.std.proofs.Common.{◌≡◌, ◌≢◌, List, rules, subst}
use Rattle.std.proofs.lemmas.Result.{IfOk-weaker}
use Rattle.wm_event.specs.declared.log.ThreadLog.{ThreadLog}
use Rattle.wm_replay.specs.declared.answer.ReplayAnswer.TheVariants.{Same}
use Rattle.wm_replay.specs.Comparison.{Replays}
use Rattle.wm_replay.specs.Replay.{AreRuns}
use Rattle.wm_litmus.specs.Witness.AnswersCompared.{searched, broken}
use Rattle.wm_litmus.proofs.witness.compared.Goals as goal

pub returns-then-ne : goal.returns-then-ne
returns-then-ne g c =
    let m = c.args.module.now in
    let answer = c.in_ok-answer.answer in
    let other : answer ≢ Same = search rules in
    let replays = subst (λ (log : List ThreadLog). Replays m log answer) c.log.ensures.value c.in_ok-answer.ensures in
    IfOk-weaker c.of_verdict.result _ _ (λ printed prints. broken answer other replays prints.status_is prints.text_is) c.of_verdict.ensures

pub returns : goal.returns
returns g c =
    let m = c.args.module.now in
    let same : c.in_ok-answer.answer ≡ Same = search rules in
    let runs : AreRuns m c.log.result.now = subst (Replays m c.log.result.now) same c.in_ok-answer.ensures in
    IfOk-weaker c.searched.result _ _ (λ printed answers. searched (subst (λ (log : List ThreadLog). AreRuns m log) c.log.ensures.value runs) answers) c.searched.ensures
