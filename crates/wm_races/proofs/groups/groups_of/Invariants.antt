use Rattle.std.proofs.Common.{◌≤◌, ◌+◌, ◌*◌, List, length}
use Rattle.std.specs.Prelude.{sum_by}
use Rattle.wm_races.specs.Classes.{HasClassSites}
use Rattle.wm_races.specs.Groups.{AreGroupsOf, size_of}
use Rattle.wm_races.specs.declared.site.Site.{Site}
use Rattle.wm_races.proofs.ScanLemmas.{IsBelowByte}
use Rattle.wm_races.proofs.groups.groups_of.Given as goal

-- the races at the bytes so far
abbrev pub invariant-loop-byte : goal.invariant-loop-byte
invariant-loop-byte l = (sites : List (List Site)) → HasClassSites l.before sites l.table
    → AreGroupsOf l.before sites (IsBelowByte l.before l.place (l.event.address + l.byte)) l.groups × (sum_by size_of l.groups ≤ l.byte * length l.before.witness.order)
