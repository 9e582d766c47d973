use Rattle.std.proofs.Common.{◌≤◌, List, length, ap, subst, sym, ◌∙◌}
use Rattle.std.specs.Prelude.{sum_by}
use Rattle.wm_event.specs.LoggedRun.{execution}
use Rattle.wm_races.specs.Gathering.{count_of}
use Rattle.wm_races.specs.Report.{HasSites, IsRaceReport, IsReport}
use Rattle.wm_races.specs.declared.site.Site.{Site}
use Rattle.wm_races.specs.declared.site.SiteRace.{SiteRace}
use Rattle.wm_races.proofs.OneSiteLaws.{has-one-site, one-line}
use Rattle.wm_races.proofs.first.count_races.Goals as goal

pub races-requires-after_bounds : goal.races-requires-after_bounds
races-requires-after_bounds g c κs within = subst (HasSites c.args.before.now.log) (sym c.requires) (has-one-site c.args.before.now.log)

pub count_in-total-requires : goal.count_in-total-requires
count_in-total-requires g c =
    let run = c.args.before.now in
    let is : IsRaceReport (execution run) c.args.sites.now c.in_ok-lines.lines = c.in_ok-lines.ensures in
    let few = one-line run.log is.pairs c.in_ok-lines.lines (subst (λ (s : List (List Site)). IsReport s is.pairs c.in_ok-lines.lines) c.requires is.report) in
    subst (λ (lines : List SiteRace). length lines ≤ 1) (sym c.as_slice.ensures) few

pub returns : goal.returns
returns g c =
    let is : IsRaceReport (execution c.args.before.now) c.args.sites.now c.in_ok-lines.lines = c.in_ok-lines.ensures in
    record {
      races = is.pairs;
      list = is.list;
      total = c.count_in-total.ensures ∙ ap (sum_by count_of) c.as_slice.ensures ∙ is.total;
    }
