-- The first races of an execution, and how many it has.
use Rattle.std.specs.Prelude.{◌≡◌, ℕ, List, length, map, replicate, take}
use Rattle.wm_event.specs.declared.log.ThreadLog.{ThreadLog}
use Rattle.wm_event.specs.Execution.{Execution}
use Rattle.wm_event.specs.LoggedRun.{LoggedRun}
use Rattle.wm_races.specs.Listing.{Lists, event_place}
use Rattle.wm_races.specs.Races.{IsRaceList}
use Rattle.wm_races.specs.declared.first.FirstRaces.{FirstRaces}
use Rattle.wm_races.specs.declared.pair.RacingPair.{RacingPair}
use Rattle.wm_races.specs.declared.site.Site.{Site}

-- the first races, at most `limit` of them, and the number of all
pub record AreFirstRaces (x : Execution) (limit : ℕ) (found : FirstRaces) : Type 0 where
  pub races : List RacingPair
  pub list : IsRaceList x races
  pub first : found.pairs ≡ take limit races
  pub total : found.total ≡ length races

-- the number of races
pub record IsRaceCount (x : Execution) (count : ℕ) : Type 0 where
  pub races : List RacingPair
  pub list : IsRaceList x races
  pub total : count ≡ length races

-- ---- what the parts of the search find

-- the races of the event at a place
abbrev pub AreRacesAt : LoggedRun → ℕ → List RacingPair → Type 0
AreRacesAt run place pairs = Lists run (λ p. event_place run p ≡ place) pairs

-- the same site for all events
abbrev pub one_site : Site
one_site = record { function = 0; instruction = 0; offset = 0 }

abbrev pub one_site_of : ThreadLog → List Site
one_site_of thread = replicate (length thread.events) one_site

abbrev pub one_site_table : List ThreadLog → List (List Site)
one_site_table log = map one_site_of log
