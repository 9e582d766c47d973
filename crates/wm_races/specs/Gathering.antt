-- A report while groups of pairs are added to it.
use Rattle.std.specs.Prelude.{◌≡◌, ℕ, ◌+◌, ◌<◌, List, [], ◌∷◌, ◌++◌, Some, IsSome, map, slice_get, slice_set, sum_by}
use Rattle.std.specs.List.{find}
use Rattle.wm_races.specs.Groups.{count_between, first_pair}
use Rattle.wm_races.specs.Races.{IsIn}
use Rattle.wm_races.specs.Report.{HasLine, first_at, has_sites, line_sites, pair_of, site_in}
use Rattle.wm_races.specs.declared.group.Group.{Group}
use Rattle.wm_races.specs.declared.pair.RacingPair.{RacingPair}
use Rattle.wm_races.specs.declared.report.Report.{Report}
use Rattle.wm_races.specs.declared.site.Site.{Site}
use Rattle.wm_races.specs.declared.site.SitePair.{SitePair}
use Rattle.wm_races.specs.declared.site.SiteRace.{SiteRace}

abbrev pub count_of : SiteRace → ℕ
count_of r = r.count

-- the index has the sites of each line
abbrev pub IsGathered : Report → Type 0
IsGathered report = report.index.keys ≡ map line_sites report.lines

-- that line is of these sites
abbrev pub HasSitesOf : List SiteRace → ℕ → SitePair → Type 0
HasSitesOf lines n sites = (r : SiteRace) × (slice_get lines n ≡ Some r) × (line_sites r ≡ sites)

-- a line for each two sites of some first pairs, in the order of these pairs, with the number of its sites
pub record IsNumbered (sites : List (List Site)) (firsts : List RacingPair) (number : SitePair → ℕ) (lines : List SiteRace) : Type 0 where
  pub first : (n : ℕ) (r : SiteRace) → slice_get lines n ≡ Some r → find (has_sites sites (line_sites r)) firsts ≡ Some (pair_of r)
  pub count : (n : ℕ) (r : SiteRace) → slice_get lines n ≡ Some r → r.count ≡ number (line_sites r)
  pub all : (p : RacingPair) → IsIn firsts p → HasLine sites lines p
  pub order : (m n : ℕ) (r s : SiteRace) → m < n → slice_get lines m ≡ Some r → slice_get lines n ≡ Some s
      → first_at sites firsts r < first_at sites firsts s

-- how many pairs of two sites the groups have
abbrev pub number_in : List (List Site) → List Group → SitePair → ℕ
number_in sites groups between = sum_by (count_between sites between) groups

-- the groups, reported by the sites of their pairs
abbrev pub IsGroupReport : List (List Site) → List Group → List SiteRace → Type 0
IsGroupReport sites groups lines = IsNumbered sites (map first_pair groups) (number_in sites groups) lines

-- whatever reports some groups also reports these afterwards
abbrev pub ReportsMore : List (List Site) → List Group → List SiteRace → List SiteRace → Type 0
ReportsMore sites groups old new = (earlier : List Group) → IsGroupReport sites earlier old → IsGroupReport sites (earlier ++ groups) new

-- a line that counts this number of further pairs
abbrev pub counts_more : ℕ → SiteRace → SiteRace
counts_more more r = record r { count = r.count + more }

-- that line counts this number of further pairs
abbrev pub CountsIn : ℕ → ℕ → List SiteRace → List SiteRace → Type 0
CountsIn n more old new = (r : SiteRace) × (slice_get old n ≡ Some r) × (new ≡ slice_set old n (counts_more more r))

-- the line of a first group
abbrev pub first_line : SitePair → Group → SiteRace
first_line sites g = record { site = sites.site; other = sites.other; event = g.pair.event; write = g.pair.write; count = g.count }

-- the line of these sites counts the group's pairs, or the group is the first one of these sites
pub data AddsGroup (sites : SitePair) (g : Group) (old new : List SiteRace) : Type 0 where
  counts : (n : ℕ) → HasSitesOf old n sites → CountsIn n g.count old new → AddsGroup sites g old new
  begins : ((n : ℕ) → HasSitesOf old n sites → ⊥) → new ≡ old ++ first_line sites g ∷ [] → AddsGroup sites g old new

-- the table has the sites of the first pairs
abbrev pub HasGroupSites : List (List Site) → List Group → Type 0
HasGroupSites sites groups = (n : ℕ) (g : Group) → slice_get groups n ≡ Some g
    → IsSome (site_in sites g.pair.event) × IsSome (site_in sites g.pair.write)
