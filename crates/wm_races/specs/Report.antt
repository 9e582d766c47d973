-- How racing pairs are reported by the sites of their events.
use Rattle.std.specs.Prelude.{◌≡◌, ℕ, ◌<◌, ◌==◌, ◌&&◌, List, Bool, Option, Some, IsTrue, IsSome, slice_get, option_and_then, unwrap_or, length, count_by, sum_by}
use Rattle.std.specs.List.{find, position_or_len}
use Rattle.wm_event.specs.declared.event.EventKey.{EventKey}
use Rattle.wm_event.specs.declared.log.ThreadLog.{ThreadLog}
use Rattle.wm_event.specs.Execution.{Execution}
use Rattle.wm_event.specs.Log.{event_in}
use Rattle.wm_races.specs.Races.{IsIn, IsRaceList}
use Rattle.wm_races.specs.declared.pair.RacingPair.{RacingPair}
use Rattle.wm_races.specs.declared.site.Site.{Site}
use Rattle.wm_races.specs.declared.site.SitePair.{SitePair}
use Rattle.wm_races.specs.declared.site.SiteRace.{SiteRace}

-- the site that the table has for an event, by its thread and its number
abbrev pub site_in : List (List Site) → EventKey → Option Site
site_in sites key = option_and_then (λ thread. slice_get thread key.number) (slice_get sites key.thread)

-- the table has a site for each event of the log
abbrev pub HasSites : List ThreadLog → List (List Site) → Type 0
HasSites log sites = (key : EventKey) → IsSome (event_in log key) → IsSome (site_in sites key)

abbrev pub site_at : List (List Site) → EventKey → Site
site_at sites key = unwrap_or (site_in sites key) (record { function = 0; instruction = 0; offset = 0 })

abbrev pub same_site : Site → Site → Bool
same_site a b = (a.function == b.function) && ((a.instruction == b.instruction) && (a.offset == b.offset))

-- the sites of a pair's events, and the sites of a line
abbrev pub pair_sites : List (List Site) → RacingPair → SitePair
pair_sites sites p = record { site = site_at sites p.event; other = site_at sites p.write }

abbrev pub line_sites : SiteRace → SitePair
line_sites r = record { site = r.site; other = r.other }

-- whether a pair's events come from two sites
abbrev pub has_sites : List (List Site) → SitePair → RacingPair → Bool
has_sites sites between p = same_site between.site (site_at sites p.event) && same_site between.other (site_at sites p.write)

-- the pair that a line names
abbrev pub pair_of : SiteRace → RacingPair
pair_of r = record { event = r.event; write = r.write }

-- the place of the first pair of the line's sites
abbrev pub first_at : List (List Site) → List RacingPair → SiteRace → ℕ
first_at sites pairs r = position_or_len (has_sites sites (line_sites r)) pairs

-- what a line states: the first pair of its sites, and the number of their pairs
pub record IsLine (sites : List (List Site)) (pairs : List RacingPair) (r : SiteRace) : Type 0 where
  pub first : find (has_sites sites (line_sites r)) pairs ≡ Some (pair_of r)
  pub count : r.count ≡ count_by (has_sites sites (line_sites r)) pairs

-- the line that counts the pair
abbrev pub HasLine : List (List Site) → List SiteRace → RacingPair → Type 0
HasLine sites lines p = (n : ℕ) × ((r : SiteRace) × (slice_get lines n ≡ Some r) × IsTrue (has_sites sites (line_sites r) p))

-- a line for each two sites that pairs have, in the order of the first pairs
pub record IsReport (sites : List (List Site)) (pairs : List RacingPair) (lines : List SiteRace) : Type 0 where
  pub each : (n : ℕ) (r : SiteRace) → slice_get lines n ≡ Some r → IsLine sites pairs r
  pub all : (p : RacingPair) → IsIn pairs p → HasLine sites lines p
  pub order : (m n : ℕ) (r s : SiteRace) → m < n → slice_get lines m ≡ Some r → slice_get lines n ≡ Some s
      → first_at sites pairs r < first_at sites pairs s

-- the races of the execution, reported by these sites
pub record IsRaceReport (x : Execution) (sites : List (List Site)) (lines : List SiteRace) : Type 0 where
  pub pairs : List RacingPair
  pub list : IsRaceList x pairs
  pub report : IsReport sites pairs lines
  pub total : sum_by (λ r. r.count) lines ≡ length pairs

-- the races of an execution have only one report for a given table of sites
abbrev pub OneReport : Type 0
OneReport = (x : Execution) (sites : List (List Site)) (lines other : List SiteRace) → IsRaceReport x sites lines → IsRaceReport x sites other → lines ≡ other
