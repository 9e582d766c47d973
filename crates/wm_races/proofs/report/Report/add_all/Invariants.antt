use Rattle.std.proofs.Common.{◌≡◌, ◌+◌, ◌++◌, List, take}
use Rattle.std.specs.Prelude.{sum_by}
use Rattle.wm_races.specs.Gathering.{IsGathered, IsGroupReport, count_of}
use Rattle.wm_races.specs.Groups.{size_of}
use Rattle.wm_races.specs.declared.group.Group.{Group}
use Rattle.wm_races.proofs.report.Report.add_all.Given as goal

-- the groups so far are reported
abbrev pub invariant-loop-group : goal.invariant-loop-group
invariant-loop-group l = record {
  gathered : IsGathered l.self;
  report : (earlier : List Group) → IsGroupReport l.sites earlier l.initial.self.lines → IsGroupReport l.sites (earlier ++ take l.group-index l.groups) l.self.lines;
  total : sum_by count_of l.self.lines ≡ sum_by count_of l.initial.self.lines + sum_by size_of (take l.group-index l.groups);
}
