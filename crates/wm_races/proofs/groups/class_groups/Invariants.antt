use Rattle.std.proofs.Common.{List}
use Rattle.wm_races.specs.Classes.{AreOfSites}
use Rattle.wm_races.specs.Groups.{AreGroupsOf, ArePlaced, RiseInPlace}
use Rattle.wm_races.specs.declared.site.Site.{Site}
use Rattle.wm_races.proofs.ByteLemmas.{IsOfFirst}
use Rattle.wm_races.proofs.groups.class_groups.Given as goal

-- the races with the classes so far
abbrev pub invariant-loop-class : goal.invariant-loop-class
invariant-loop-class l = record {
  groups : (sites : List (List Site)) → AreOfSites l.before sites l.classes → AreGroupsOf l.before sites (IsOfFirst l.before l.place l.address l.classes l.class-index) l.groups.items;
  placed : ArePlaced l.before l.groups.items;
  rises : RiseInPlace l.groups.items;
}
