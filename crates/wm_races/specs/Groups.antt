-- Racing pairs, gathered into groups.
use Rattle.std.specs.Prelude.{◌≡◌, ◌⊎◌, ℕ, ◌+◌, ◌*◌, ◌<◌, ◌≤◌, List, Some, length, slice_get, sum_by, count_by, if◌then◌else◌}
use Rattle.std.specs.List.{insert}
use Rattle.std.specs.List.Sorted.{IsNonDecreasingBy}
use Rattle.wm_event.specs.Execution.{Execution}
use Rattle.wm_event.specs.LoggedRun.{LoggedRun, execution}
use Rattle.wm_races.specs.Classes.{HasClassSites}
use Rattle.wm_races.specs.Listing.{Lists, event_place, write_place}
use Rattle.wm_races.specs.Races.{ComesBefore, IsIn, first_common}
use Rattle.wm_races.specs.Report.{has_sites, pair_sites}
use Rattle.wm_races.specs.declared.classes.ClassTable.{ClassTable}
use Rattle.wm_races.specs.declared.group.Group.{Group}
use Rattle.wm_races.specs.declared.pair.RacingPair.{RacingPair}
use Rattle.wm_races.specs.declared.site.Site.{Site}
use Rattle.wm_races.specs.declared.site.SitePair.{SitePair}

abbrev pub size_of : Group → ℕ
size_of g = g.count

abbrev pub first_pair : Group → RacingPair
first_pair g = g.pair

-- how many pairs of two sites a group has
abbrev pub count_between : List (List Site) → SitePair → Group → ℕ
count_between sites between g = if has_sites sites between g.pair then g.count else 0

-- the same pair, or an earlier one
abbrev pub IsNoLater : Execution → RacingPair → RacingPair → Type 0
IsNoLater x p q = (p ≡ q) ⊎ ComesBefore x p q

-- some group of the pair's sites begins with the pair or with an earlier pair
abbrev pub IsCovered : Execution → List (List Site) → List Group → RacingPair → Type 0
IsCovered x sites groups p = (n : ℕ)
    × ((g : Group) × (slice_get groups n ≡ Some g) × (pair_sites sites g.pair ≡ pair_sites sites p) × IsNoLater x g.pair p)

-- the groups have the pairs: for each two sites they count the same number, and they begin with the first of them
pub record Gathers (x : Execution) (sites : List (List Site)) (groups : List Group) (pairs : List RacingPair) : Type 0 where
  pub counts : (between : SitePair) → sum_by (count_between sites between) groups ≡ count_by (has_sites sites between) pairs
  pub total : sum_by size_of groups ≡ length pairs
  pub among : (n : ℕ) (g : Group) → slice_get groups n ≡ Some g → IsIn pairs g.pair
  pub covered : (p : RacingPair) → IsIn pairs p → IsCovered x sites groups p

-- the groups are in the order of their first pairs
abbrev pub AreInOrder : Execution → List Group → Type 0
AreInOrder x groups = (m n : ℕ) (g h : Group) → m < n → slice_get groups m ≡ Some g → slice_get groups n ≡ Some h → ComesBefore x g.pair h.pair

-- the racing pairs that P holds of, in groups
pub record AreGroupsOf (run : LoggedRun) (sites : List (List Site)) (P : RacingPair → Type 0) (groups : List Group) : Type 0 where
  pub pairs : List RacingPair
  pub list : Lists run P pairs
  pub gathers : Gathers (execution run) sites groups pairs
  pub order : AreInOrder (execution run) groups

-- the pairs of the event at a place whose first common byte this is
abbrev pub IsAtByte : LoggedRun → ℕ → ℕ → RacingPair → Type 0
IsAtByte run place byte p = (event_place run p ≡ place) × (first_common (execution run) p ≡ byte)

-- the races of the event at a place in groups that don't have too many pairs
pub record AreGroupsAt (run : LoggedRun) (sites : List (List Site)) (place : ℕ) (groups : List Group) : Type 0 where
  pub groups_of : AreGroupsOf run sites (λ p. event_place run p ≡ place) groups
  pub few : sum_by size_of groups ≤ 8 * length run.witness.order

-- the races of the event at a place in groups, under any sites that the classes keep
abbrev pub IsGroupedAt : LoggedRun → ClassTable → ℕ → List Group → Type 0
IsGroupedAt run table place groups = (sites : List (List Site)) → HasClassSites run sites table → AreGroupsAt run sites place groups

-- list k has the groups of the event at k after a place
abbrev pub AreGroupsFrom : LoggedRun → ClassTable → ℕ → List (List Group) → Type 0
AreGroupsFrom run table start lists = (k : ℕ) (groups : List Group) → slice_get lists k ≡ Some groups → IsGroupedAt run table (start + k) groups

-- a group states the place of the write of its first pair
abbrev pub ArePlaced : LoggedRun → List Group → Type 0
ArePlaced run groups = (n : ℕ) (g : Group) → slice_get groups n ≡ Some g → write_place run g.pair ≡ g.place

-- the places of the groups increase
abbrev pub RiseInPlace : List Group → Type 0
RiseInPlace groups = IsNonDecreasingBy (λ (g : Group). g.place) groups

-- a further group comes after those of lower places and before those of higher ones
pub record Inserts (g : Group) (old new : List Group) : Type 0 where
  pub at : ℕ
  pub within : at ≤ length old
  pub is : new ≡ insert old at g
  pub below : (n : ℕ) (h : Group) → n < at → slice_get old n ≡ Some h → h.place ≤ g.place
  pub above : (n : ℕ) (h : Group) → at ≤ n → slice_get old n ≡ Some h → g.place ≤ h.place
