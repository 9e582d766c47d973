-- What lists the races of a run answers what records it.
use Rattle.std.proofs.Common.{◌≡◌, ◌⊎◌, inl, inr, ℕ, List, [], ◌∷◌, length, take, ap, subst, string_bytes, refl, arith}
use Rattle.std.proofs.lemmas.Option.{slice_get_within}
use Rattle.wm_check.specs.declared.verdict.Verdict.{Verdict}
use Rattle.wm_check.specs.Reading.{SaysOver}
use Rattle.wm_check.specs.Texts.{verdict_status, verdict_text}
use Rattle.wm_event.specs.declared.event.EventKey.{EventKey}
use Rattle.wm_event.specs.Execution.{Execution}
use Rattle.wm_event.specs.LoggedRun.{LoggedRun, execution}
use Rattle.wm_event.specs.Rules.{IsValid}
use Rattle.wm_event.specs.Shape.{IsWellShaped, event_count}
use Rattle.wm_races.specs.declared.first.FirstRaces.{FirstRaces}
use Rattle.wm_races.specs.declared.pair.RacingPair.{RacingPair}
use Rattle.wm_races.specs.declared.site.Site.{Site}
use Rattle.wm_races.specs.declared.site.SiteRace.{SiteRace}
use Rattle.wm_races.specs.First.{AreFirstRaces}
use Rattle.wm_races.specs.Races.{IsIn, IsRaceList, Race}
use Rattle.wm_races.specs.Report.{HasLine, HasSites, IsRaceReport}
use Rattle.wm_sites.specs.Sites.{AreEventSites, Code}
use Rattle.wm_sequential.specs.Sequential.{IsSequential, RaceFreeRunsAreSequential}
use Rattle.wm_litmus.specs.declared.answer.Answer.{Answer}
use Rattle.wm_litmus.specs.Prints.{Gives, Prints}
use Rattle.wm_litmus.specs.Races.{IsNotAllowed, ListsFirst, ListsRaces, RacesOver, ReportsOwnRaces, ReportsRaces, pair_text, sites_text}
use Rattle.wm_litmus.specs.Races.AnswersRaces.{told}

-- of no race in the list there is none
none_in : (p : RacingPair) → IsIn [] p → ⊥
none_in p is = let l = slice_get_within [] is.0 p is.1 in absurd (omega (arith, l))

no_race : (x : Execution) (pairs : List RacingPair) → IsRaceList x pairs → pairs ≡ [] → (a b : EventKey) → Race x a b → ⊥
no_race x pairs list none a b race = found (list.complete a b race)
  where
    found : IsIn pairs (record { event = a; write = b }) ⊎ IsIn pairs (record { event = b; write = a }) → ⊥
    found (inl is) = none_in (record { event = a; write = b }) (subst (λ ps. IsIn ps (record { event = a; write = b })) none is)
    found (inr is) = none_in (record { event = b; write = a }) (subst (λ ps. IsIn ps (record { event = b; write = a })) none is)

-- so a valid run without a race is sequential
pub listed_sequential : RaceFreeRunsAreSequential → (run : LoggedRun) → IsWellShaped run → IsValid (execution run) → (pairs : List RacingPair) → IsRaceList (execution run) pairs
    → pairs ≡ [] → IsSequential (execution run)
listed_sequential law run shape valid pairs list none = law run shape valid (no_race (execution run) pairs list none)

no_pair : (x : Execution) (sites : List (List Site)) (lines : List SiteRace) (report : IsRaceReport x sites lines) → lines ≡ [] → report.pairs ≡ []
no_pair x sites lines report none = empty report.pairs (report.report.all)
  where
    empty : (pairs : List RacingPair) → ((p : RacingPair) → IsIn pairs p → HasLine sites lines p) → pairs ≡ []
    empty [] has = refl
    empty (p ∷ pairs) has =
        let line = has p (0, refl) in
        let l = slice_get_within lines line.0 line.1.0 line.1.1 in
        let few : length lines ≡ 0 = ap length none in
        absurd (omega (arith, l, few))

pub reported_sequential : RaceFreeRunsAreSequential → (run : LoggedRun) → IsWellShaped run → IsValid (execution run) → (sites : List (List Site)) (lines : List SiteRace)
    → IsRaceReport (execution run) sites lines → lines ≡ [] → IsSequential (execution run)
reported_sequential law run shape valid sites lines report none =
    law run shape valid (no_race (execution run) report.pairs report.list (no_pair (execution run) sites lines report none))

-- what lists the races of a run by the sites of its events reports them
pub reports_races : RaceFreeRunsAreSequential → (code : Code) (run : LoggedRun) → IsWellShaped run → IsValid (execution run) → (sites : List (List Site))
    → (races shown : List SiteRace) (threads events total : ℕ) (answer : Answer) → HasSites run.log sites → AreEventSites code run.log sites
    → IsRaceReport (execution run) sites races → shown ≡ take 1000 races → total ≡ length races → threads ≡ length run.log → events ≡ event_count run.log
    → ListsFirst sites_text threads events shown total answer → Gives (ReportsRaces code run) answer
reports_races law code run shape valid sites races shown threads events total answer has of_events report is_shown is_total of_threads of_count lists = record {
  sites = sites;
  has_sites = has;
  of_events = of_events;
  races = races;
  report = report;
  sequential = reported_sequential law run shape valid sites races report;
  lists = subst (λ n. ListsRaces sites_text n (event_count run.log) races answer.status (string_bytes answer.text)) of_threads
      (subst (λ n. ListsRaces sites_text threads n races answer.status (string_bytes answer.text)) of_count (lists races is_shown is_total));
}

-- what lists them one by one reports them
pub reports_own : RaceFreeRunsAreSequential → (run : LoggedRun) → IsWellShaped run → IsValid (execution run) → (found : FirstRaces) (threads events : ℕ) (answer : Answer)
    → AreFirstRaces (execution run) 1000 found → threads ≡ length run.log → events ≡ event_count run.log
    → ListsFirst pair_text threads events found.pairs found.total answer → Gives (ReportsOwnRaces run) answer
reports_own law run shape valid found threads events answer first of_threads of_events lists = record {
  races = first.races;
  list = first.list;
  sequential = listed_sequential law run shape valid first.races first.list;
  lists = subst (λ n. ListsRaces pair_text n (event_count run.log) first.races answer.status (string_bytes answer.text)) of_threads
      (subst (λ n. ListsRaces pair_text threads n first.races answer.status (string_bytes answer.text)) of_events (lists first.races first.first first.total));
}

-- the line of a verdict that doesn't allow a run answers the bytes that it is on
pub told_over : (code : Code) (document_bytes : List ℕ) (v : Verdict) (answer : Answer) → SaysOver code.module document_bytes v → IsNotAllowed v
    → Prints (verdict_status v) (verdict_text v) answer → RacesOver code document_bytes answer
told_over code document_bytes v answer says other prints = λ is_module. told v (says code.bytes is_module) other prints.status_is prints.text_is

-- the status of a broken run, or of a refused one, isn't that of an allowed one
pub one_not_zero : (status : ℕ) → status ≡ 1 → status ≡ 0 → ⊥
one_not_zero status one none = absurd (omega (arith, one, none))

pub two_not_zero : (status : ℕ) → status ≡ 2 → status ≡ 0 → ⊥
two_not_zero status two none = absurd (omega (arith, two, none))
