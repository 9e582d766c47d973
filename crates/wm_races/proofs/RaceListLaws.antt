-- The races of all places are all races, and their report is that of the execution.
use Rattle.std.proofs.Common.{◌≡◌, ℕ, ◌+◌, ◌<◌, ◌≤◌, List, [], ◌++◌, true, false, length, slice_get, Some, IsTrue, refl, sym, ap, ◌∙◌, subst, arith, ◌⊎◌, inl, inr, ⊎_elim}
use Rattle.std.specs.Prelude.{sum_by}
use Rattle.std.proofs.lemmas.Bool.{cases_Bool, cases_lt, false≢true}
use Rattle.std.proofs.lemmas.List.Sums.{sum_by-append}
use Rattle.std.proofs.lemmas.Option.{same_Some, slice_get_within}
use Rattle.wm_event.specs.declared.event.Event.{Event}
use Rattle.wm_event.specs.declared.event.EventKey.{EventKey}
use Rattle.wm_event.specs.Event.{writes}
use Rattle.wm_event.specs.Limits.{max_events}
use Rattle.wm_event.specs.Log.{event_in}
use Rattle.wm_event.specs.LoggedRun.{LoggedRun, execution}
use Rattle.wm_event.specs.Shape.{ListsEachOnce}
use Rattle.wm_hb.proofs.FaultLemmas.{some_of}
use Rattle.wm_races.specs.Gathering.{HasGroupSites, IsGathered, IsGroupReport, ReportsMore, count_of}
use Rattle.wm_races.specs.Groups.{AreGroupsAt, AreGroupsOf, size_of}
use Rattle.wm_races.specs.Listing.{Lists, event_place}
use Rattle.wm_races.specs.Progress.{IsReportBelow}
use Rattle.wm_races.specs.Races.{IsRaceList, IsRacingPair, IsWeak, Race}
use Rattle.wm_races.specs.Races.ComesBefore.{by_event}
use Rattle.wm_races.specs.Report.{HasSites, IsRaceReport}
use Rattle.wm_races.specs.declared.group.Group.{Group}
use Rattle.wm_races.specs.declared.pair.RacingPair.{RacingPair}
use Rattle.wm_races.specs.declared.report.Report.{Report}
use Rattle.wm_races.specs.declared.site.Site.{Site}
use Rattle.wm_races.specs.declared.site.SiteRace.{SiteRace}
use Rattle.wm_races.proofs.GroupLemmas.{groups_append, groups_none}
use Rattle.wm_races.proofs.GroupReportLaws.{group-report}
use Rattle.wm_races.proofs.RaceLemmas.{stands}

-- the races of one event more
pub groups_below : (run : LoggedRun) (sites : List (List Site)) (place : ℕ) (groups more : List Group) → AreGroupsOf run sites (λ p. event_place run p < place) groups → AreGroupsOf run sites (λ p. event_place run p ≡ place) more
    → AreGroupsOf run sites (λ p. event_place run p < place + 1) (groups ++ more)
groups_below run sites place groups more first second = groups_append run sites (λ p. event_place run p < place) (λ p. event_place run p ≡ place) (λ p. event_place run p < place + 1) groups more
    (λ p q racing_p racing_q l e. by_event (omega (arith, l, e)))
    (λ p racing l. omega (arith, l))
    (λ p racing e. omega (arith, e))
    (λ p racing l. ⊎_elim (λ (h : event_place run p < place). inl h) (λ (h : place ≤ event_place run p). inr (omega (arith, l, h))) (cases_lt (event_place run p) place))
    first second

pub report-more : (run : LoggedRun) (sites : List (List Site)) (place : ℕ) (more : List Group) (old new : Report) → length run.witness.order ≤ max_events
    → IsReportBelow run sites place old → AreGroupsAt run sites place more → IsGathered new → ReportsMore sites more old.lines new.lines
    → sum_by count_of new.lines ≡ sum_by count_of old.lines + sum_by size_of more → IsReportBelow run sites (place + 1) new
report-more run sites place more old new few below at gathered reports total =
    let size = sum_by-append size_of below.groups more in
    let sum = below.total in
    let before = below.few in
    let short = at.few in
    record {
      groups = below.groups ++ more;
      groups_of = groups_below run sites place below.groups more below.groups_of at.groups_of;
      report_of = reports below.groups below.report_of;
      total = omega (arith, size, sum, total);
      few = omega (arith, size, before, short, few);
      gathered = gathered;
    }

weak-turned : (a b : Event) → IsWeak a b → IsWeak b a
weak-turned a b (inl h) = inr (inl h)
weak-turned a b (inr (inl h)) = inl h
weak-turned a b (inr (inr h)) = inr (inr (λ e. h (sym e)))

pub race-turned : (run : LoggedRun) (a b : EventKey) → Race (execution run) a b → Race (execution run) b a
race-turned run a b race = record {
  first = race.second;
  second = race.first;
  is_first = race.is_second;
  is_second = race.is_first;
  apart = λ e. race.apart (sym e);
  overlap = (race.overlap.0, race.overlap.2, race.overlap.1);
  one_writes = ⊎_elim (λ (h : IsTrue (writes race.first)). inr h) (λ (h : IsTrue (writes race.second)). inl h) race.one_writes;
  weak = weak-turned race.first race.second race.weak;
  unordered = (race.unordered.1, race.unordered.0);
}

module _ (run : LoggedRun) (once : ListsEachOnce run.log run.witness.order) where
  place_of : EventKey → ℕ
  place_of key = (execution run).place_of key

  -- a race has a name, one way or the other
  named : (a b : EventKey) → Race (execution run) a b → IsRacingPair (execution run) (record { event = a; write = b }) ⊎ IsRacingPair (execution run) (record { event = b; write = a })
  unfolding race-turned
  named a b race = ⊎_elim
      (λ (w : writes race.second ≡ true). ⊎_elim
      (λ (v : writes race.first ≡ true). ⊎_elim
      (λ (l : (execution run).place_of b < (execution run).place_of a). inl (record { race = race; write = w; event = inr l }))
      (λ (l : (execution run).place_of a ≤ (execution run).place_of b). ⊎_elim
      (λ (k : (execution run).place_of a < (execution run).place_of b). inr (record { race = race-turned run a b race; write = v; event = inr k }))
      (λ (k : (execution run).place_of b ≤ (execution run).place_of a).
      let n = (execution run).place_of b in
      let same : (execution run).place_of a ≡ n = omega (arith, l, k) in
      let at_a = stands run once a race.first n race.is_first same in
      let at_b = stands run once b race.second n race.is_second refl in
      absurd (race.apart (same_Some a b (sym at_a ∙ at_b))))
      (cases_lt ((execution run).place_of a) ((execution run).place_of b)))
      (cases_lt ((execution run).place_of b) ((execution run).place_of a)))
      (λ (v : writes race.first ≡ false). inl (record { race = race; write = w; event = inl v }))
      (cases_Bool (writes race.first)))
      (λ (w : writes race.second ≡ false). ⊎_elim
      (λ (v : IsTrue (writes race.first)). inr (record { race = race-turned run a b race; write = v; event = inl w }))
      (λ (v : IsTrue (writes race.second)). absurd (false≢true (sym w ∙ v)))
      race.one_writes)
      (cases_Bool (writes race.second))

  placed : (n : ℕ) → length run.witness.order ≤ n → (p : RacingPair) → IsRacingPair (execution run) p → event_place run p < n
  placed n all p racing =
      let at = stands run once p.event racing.race.first (event_place run p) racing.race.is_first refl in
      let l = slice_get_within run.witness.order (event_place run p) p.event at in
      omega (arith, l, all)

  pub all-races : (n : ℕ) (pairs : List RacingPair) → length run.witness.order ≤ n → Lists run (λ p. event_place run p < n) pairs → IsRaceList (execution run) pairs
  all-races n pairs all lists = record {
    sound = λ p h. (lists.sound h.0 p h.1).0;
    complete = λ a b race. ⊎_elim
        (λ (h : IsRacingPair (execution run) (record { event = a; write = b })). inl (lists.complete (record { event = a; write = b }) h (placed n all (record { event = a; write = b }) h)))
        (λ (h : IsRacingPair (execution run) (record { event = b; write = a })). inr (lists.complete (record { event = b; write = a }) h (placed n all (record { event = b; write = a }) h)))
        (named a b race);
    sorted = lists.sorted;
  }

  pub race-report : (sites : List (List Site)) (n : ℕ) (report : Report) → length run.witness.order ≤ n → IsReportBelow run sites n report → IsRaceReport (execution run) sites report.lines
  race-report sites n report all below =
      let is = below.groups_of in
      record {
        pairs = is.pairs;
        list = all-races n is.pairs all is.list;
        report = group-report (execution run) sites below.groups is.pairs is.gathers is.list.sorted is.order report.lines below.report_of;
        total = below.total ∙ is.gathers.total;
      }

-- the first pair of a group has its sites
pub group-sites-there : (run : LoggedRun) (sites : List (List Site)) → HasSites run.log sites → (place : ℕ) (groups : List Group) → AreGroupsAt run sites place groups → HasGroupSites sites groups
group-sites-there run sites has place groups are n g at =
    let k = are.groups_of.gathers.among n g at in
    let racing = (are.groups_of.list.sound k.0 g.pair k.1).0 in
    (has g.pair.event (some_of (event_in run.log g.pair.event) racing.race.first racing.race.is_first), has g.pair.write (some_of (event_in run.log g.pair.write) racing.race.second racing.race.is_second))

-- no line yet
pub report-none : (run : LoggedRun) (sites : List (List Site)) (report : Report) → report.lines ≡ [] → IsGathered report → IsReportBelow run sites 0 report
report-none run sites report empty gathered = record {
  groups = [];
  groups_of = groups_none run sites (λ p. event_place run p < 0) (λ p racing l. omega arith);
  report_of = subst (IsGroupReport sites []) (sym empty) (record {
    first = λ n r h. absurd (nothing n r h);
    count = λ n r h. absurd (nothing n r h);
    all = λ p h. absurd (no_pair h.0 p h.1);
    order = λ m n r s l h. absurd (nothing m r h);
  });
  total = ap (sum_by count_of) empty;
  few = omega arith;
  gathered = gathered;
}
  where
    nothing : (n : ℕ) (r : SiteRace) → slice_get [] n ≡ Some r → ⊥
    nothing n r h = cc

    no_pair : (n : ℕ) (p : RacingPair) → slice_get [] n ≡ Some p → ⊥
    no_pair n p h = cc
