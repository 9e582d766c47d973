use Rattle.std.proofs.Common.{◌≡◌, length, ap, ◌∙◌, subst}
use Rattle.std.proofs.lemmas.Result.{IfOk-weaker}
use Rattle.wm_event.specs.LoggedRun.{execution}
use Rattle.wm_event.specs.Shape.{event_count}
use Rattle.wm_races.specs.First.{AreFirstRaces}
use Rattle.wm_litmus.specs.Races.{ListsFirst, pair_text}
use Rattle.wm_litmus.proofs.RaceAnswers.{reports_own}
use Rattle.wm_litmus.proofs.races.list_valid.Goals as goal

pub returns : goal.returns
returns g c =
    let run = c.args.candidate.now in
    let found = c.in_ok-found.found in
    let first : AreFirstRaces (execution run) 1000 found = subst (λ r. AreFirstRaces (execution r) 1000 found) c.over-before.ensures c.in_ok-found.ensures in
    let threads : c.threads-threads.result.now ≡ run.log = c.threads-threads.ensures.value ∙ c.log.ensures.value in
    IfOk-weaker c.listed.result _ _
    (λ answer lists.
    reports_own c.race_free_runs_are_sequential.ensures run c.log.ensures.shape c.requires.valid found (length c.threads-threads.result.now) c.count_events.result answer first
    (ap length threads) (c.count_events.ensures ∙ ap event_count threads)
    (subst (λ shown. ListsFirst pair_text (length c.threads-threads.result.now) c.count_events.result shown found.total answer) c.as_slice.ensures lists))
    c.listed.ensures
