use Rattle.std.proofs.Common.{List}
use Rattle.wm_races.specs.Groups.{AreGroupsOf}
use Rattle.wm_races.specs.Window.{AreRacingWrites}
use Rattle.wm_races.specs.declared.site.Site.{Site}
use Rattle.wm_races.proofs.ScanLemmas.{IsOfWrites}
use Rattle.wm_races.proofs.groups.pair_groups.Given as goal

-- the races with the writes so far
abbrev pub invariant-loop-write : goal.invariant-loop-write
invariant-loop-write l = record {
  racing : AreRacingWrites l.before l.place l.address l.write-items;
  groups : (sites : List (List Site)) → AreGroupsOf l.before sites (IsOfWrites l.before l.place l.address l.write-items l.write-index) l.groups.items;
}
