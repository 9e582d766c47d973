use Rattle.std.proofs.Common.{◌≡◌, length, min, take, sym, ap, ◌∙◌, subst, arith}
use Rattle.std.proofs.lemmas.List.{take_min}
use Rattle.std.proofs.lemmas.Result.{IfOk-weaker}
use Rattle.wm_event.specs.LoggedRun.{execution}
use Rattle.wm_event.specs.Shape.{event_count}
use Rattle.wm_sites.specs.Sites.{AreEventSites, code_in}
use Rattle.wm_races.specs.Report.{HasSites, IsRaceReport}
use Rattle.wm_litmus.proofs.RaceAnswers.{reports_races}
use Rattle.wm_litmus.proofs.races.list_allowed.Goals as goal

pub returns : goal.returns
returns g c =
    let run = c.args.candidate.now in
    let races = c.in_ok-races.races in
    let sites = c.as_slice.result.now in
    let size = c.len.ensures in
    let least : c.min-shown.result ≡ min 1000 (length races) = c.min-shown.ensures ∙ omega (arith, size) in
    let shown : take c.min-shown.result c.as_slice-2.result.now ≡ take 1000 races =
    ap (take c.min-shown.result) c.as_slice-2.ensures ∙ ap (λ n. take n races) least ∙ take_min 1000 races in
    let has : HasSites run.log sites =
    subst (HasSites run.log) (sym c.as_slice.ensures.value) (subst (λ log. HasSites log c.in_ok-sites.sites.items) c.log-2.ensures.value c.in_ok-sites.ensures.has) in
    let of_events : AreEventSites (code_in c.args.code) run.log sites =
    subst (AreEventSites (code_in c.args.code) run.log) (sym c.as_slice.ensures.value)
    (subst (λ log. AreEventSites (code_in c.args.code) log c.in_ok-sites.sites.items) c.log-2.ensures.value c.in_ok-sites.ensures.sites) in
    let report : IsRaceReport (execution run) sites races = subst (λ r. IsRaceReport (execution r) sites races) c.over-before.ensures c.in_ok-races.ensures in
    let threads : c.threads-threads.result.now ≡ run.log = c.threads-threads.ensures.value ∙ c.log.ensures.value in
    IfOk-weaker c.listed.result _ _
    (λ answer lists.
    reports_races c.race_free_runs_are_sequential.ensures (code_in c.args.code) run c.log.ensures.shape c.requires.valid sites races (take c.min-shown.result c.as_slice-2.result.now)
    (length c.threads-threads.result.now) c.count_events.result c.len-2.result answer has of_events report shown c.len-2.ensures
    (ap length threads) (c.count_events.ensures ∙ ap event_count threads) lists)
    c.listed.ensures
