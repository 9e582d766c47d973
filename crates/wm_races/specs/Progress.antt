-- A report of the events before a place of the order.
use Rattle.std.specs.Prelude.{◌≡◌, ℕ, ◌*◌, ◌<◌, ◌≤◌, List, sum_by}
use Rattle.wm_event.specs.Limits.{max_events}
use Rattle.wm_event.specs.LoggedRun.{LoggedRun}
use Rattle.wm_races.specs.Gathering.{IsGathered, IsGroupReport, count_of}
use Rattle.wm_races.specs.Groups.{AreGroupsOf, size_of}
use Rattle.wm_races.specs.Listing.{event_place}
use Rattle.wm_races.specs.declared.group.Group.{Group}
use Rattle.wm_races.specs.declared.report.Report.{Report}
use Rattle.wm_races.specs.declared.site.Site.{Site}

-- it reports the races of the events before the place
pub record IsReportBelow (run : LoggedRun) (sites : List (List Site)) (place : ℕ) (report : Report) : Type 0 where
  pub groups : List Group
  pub groups_of : AreGroupsOf run sites (λ p. event_place run p < place) groups
  pub report_of : IsGroupReport sites groups report.lines
  pub total : sum_by count_of report.lines ≡ sum_by size_of groups
  pub few : sum_by size_of groups ≤ place * (8 * max_events)
  pub gathered : IsGathered report
