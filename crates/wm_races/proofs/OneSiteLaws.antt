-- Under one site for all events, and under a site for each.
use Rattle.std.proofs.Common.{◌≡◌, ℕ, zero, suc, ◌≤◌, List, [], ◌∷◌, length, map, replicate, slice_get, Some, refl, sym, ap, ◌∙◌, subst, arith, unwrap_or}
use Rattle.std.specs.List.{position_or_len}
use Rattle.std.specs.Option.{option_map}
use Rattle.std.proofs.lemmas.List.{length-replicate}
use Rattle.std.proofs.lemmas.Option.{same_Some, slice_get-map}
use Rattle.wm_event.specs.declared.event.Event.{Event}
use Rattle.wm_event.specs.declared.event.EventKey.{EventKey}
use Rattle.wm_event.specs.declared.log.ThreadLog.{ThreadLog}
use Rattle.wm_event.specs.Log.{HasKeys, event_in}
use Rattle.wm_event.specs.LoggedRun.{LoggedRun, execution}
use Rattle.wm_event.specs.Shape.{event_counts}
use Rattle.wm_races.specs.First.{AreRacesAt, one_site, one_site_table}
use Rattle.wm_races.specs.Groups.{AreGroupsOf, first_pair}
use Rattle.wm_races.specs.Listing.{event_place}
use Rattle.wm_races.specs.Races.{ComesBefore, IsRacingPair}
use Rattle.wm_races.specs.Report.{HasSites, IsReport, first_at, has_sites, line_sites, pair_of, pair_sites, site_at, site_in}
use Rattle.wm_races.specs.declared.group.Group.{Group}
use Rattle.wm_races.specs.declared.pair.RacingPair.{RacingPair}
use Rattle.wm_races.specs.declared.site.Site.{Site}
use Rattle.wm_races.specs.declared.site.SitePair.{SitePair}
use Rattle.wm_races.specs.declared.site.SiteRace.{SiteRace}
use Rattle.wm_races.proofs.OneReportLaw.{found-passes}
use Rattle.wm_races.proofs.ReportLemmas.{sites-same}
use Rattle.wm_races.proofs.SiteLaws.{sites-of-shape}

-- ---- one site

same-counts : (log : List ThreadLog) → map length (one_site_table log) ≡ event_counts log
same-counts [] = refl
same-counts (thread ∷ log) = λ i. length-replicate (length thread.events) one_site i ∷ same-counts log i

pub has-one-site : (log : List ThreadLog) → HasSites log (one_site_table log)
has-one-site log = sites-of-shape log (one_site_table log) (same-counts log)

one-in-thread : (n k : ℕ) → unwrap_or (slice_get (replicate n one_site) k) one_site ≡ one_site
one-in-thread zero k = refl
one-in-thread (suc n) zero = refl
one-in-thread (suc n) (suc k) = one-in-thread n k

one-in-log : (log : List ThreadLog) (t k : ℕ) → site_at (one_site_table log) (record { thread = t; number = k }) ≡ one_site
one-in-log [] t k = refl
one-in-log (thread ∷ log) zero k = one-in-thread (length thread.events) k
one-in-log (thread ∷ log) (suc t) k = one-in-log log t k

pub one-site-at : (log : List ThreadLog) (key : EventKey) → site_at (one_site_table log) key ≡ one_site
one-site-at log key = one-in-log log key.thread key.number

abbrev one_pair : SitePair
one_pair = record { site = one_site; other = one_site }

-- each line of a report under one site is of it
line-of-one : (log : List ThreadLog) (pairs : List RacingPair) (lines : List SiteRace) → IsReport (one_site_table log) pairs lines → (n : ℕ) (r : SiteRace) → slice_get lines n ≡ Some r → line_sites r ≡ one_pair
line-of-one log pairs lines report n r at =
    let line = report.each n r at in
    let passes = found-passes (has_sites (one_site_table log) (line_sites r)) pairs (pair_of r) line.first in
    sites-same (one_site_table log) (line_sites r) (pair_of r) passes ∙ (λ i. record { site = one-site-at log r.event i; other = one-site-at log r.write i })

pub one-line : (log : List ThreadLog) (pairs : List RacingPair) (lines : List SiteRace) → IsReport (one_site_table log) pairs lines → length lines ≤ 1
one-line log pairs [] report = omega arith
one-line log pairs (r ∷ []) report = omega arith
one-line log pairs (r ∷ s ∷ rest) report =
    let a = line-of-one log pairs (r ∷ s ∷ rest) report 0 r refl in
    let b = line-of-one log pairs (r ∷ s ∷ rest) report 1 s refl in
    let before = report.order 0 1 r s (omega arith) refl refl in
    let same : first_at (one_site_table log) pairs r ≡ first_at (one_site_table log) pairs s = ap (λ (sites : SitePair). position_or_len (has_sites (one_site_table log) sites) pairs) (a ∙ sym b) in
    absurd (omega (arith, before, same))

-- ---- a site for each event

abbrev own_site : Event → Site
own_site e = record { function = e.thread; instruction = e.number; offset = 0 }

abbrev own_site_table : List ThreadLog → List (List Site)
own_site_table log = map (λ (thread : ThreadLog). map own_site thread.events) log

own-in-log : (log : List ThreadLog) (t k : ℕ) (e : Event) → event_in log (record { thread = t; number = k }) ≡ Some e → site_in (own_site_table log) (record { thread = t; number = k }) ≡ Some (own_site e)
own-in-log [] t k e there = absurd (cc)
own-in-log (thread ∷ log) zero k e there = slice_get-map own_site thread.events k ∙ ap (option_map own_site) there
own-in-log (thread ∷ log) (suc t) k e there = own-in-log log t k e there

module _ (log : List ThreadLog) (keys : HasKeys log) where
  -- the site of an event determines which it is
  own-site-at : (key : EventKey) (e : Event) → event_in log key ≡ Some e → site_at (own_site_table log) key ≡ record { function = key.thread; instruction = key.number; offset = 0 }
  own-site-at key e there =
      let k = keys key e there in
      ap (λ o. unwrap_or o one_site) (own-in-log log key.thread key.number e there) ∙ (λ i. record { function = k.0 i; instruction = k.1 i; offset = 0 })

  same-key : (a b : EventKey) (e d : Event) → event_in log a ≡ Some e → event_in log b ≡ Some d → site_at (own_site_table log) a ≡ site_at (own_site_table log) b → a ≡ b
  same-key a b e d at_a at_b same =
      let s = sym (own-site-at a e at_a) ∙ same ∙ own-site-at b d at_b in
      λ i. record { thread = (ap (λ (site : Site). site.function) s) i; number = (ap (λ (site : Site). site.instruction) s) i }

module _ (run : LoggedRun) (keys : HasKeys run.log) (place : ℕ) (groups : List Group) (grouped : (sites : List (List Site)) → AreGroupsOf run sites (λ p. event_place run p ≡ place) groups) where
  is : AreGroupsOf run (own_site_table run.log) (λ p. event_place run p ≡ place) groups
  is = grouped (own_site_table run.log)

  group-at : (gs : List Group) (n : ℕ) (p : RacingPair) → slice_get (map first_pair gs) n ≡ Some p → (g : Group) × (slice_get gs n ≡ Some g) × (g.pair ≡ p)
  group-at [] n p at = absurd (cc)
  group-at (g ∷ gs) zero p at = (g, refl, same_Some g.pair p at)
  group-at (g ∷ gs) (suc n) p at = group-at gs n p at

  at-group : (gs : List Group) (n : ℕ) (g : Group) → slice_get gs n ≡ Some g → slice_get (map first_pair gs) n ≡ Some g.pair
  at-group gs n g at = slice_get-map first_pair gs n ∙ ap (option_map first_pair) at

  same-pair-of : (p q : RacingPair) → IsRacingPair (execution run) p → IsRacingPair (execution run) q → pair_sites (own_site_table run.log) p ≡ pair_sites (own_site_table run.log) q → p ≡ q
  same-pair-of p q racing_p racing_q same =
      let event = same-key run.log keys p.event q.event racing_p.race.first racing_q.race.first racing_p.race.is_first racing_q.race.is_first (ap (λ (s : SitePair). s.site) same) in
      let write = same-key run.log keys p.write q.write racing_p.race.second racing_q.race.second racing_p.race.is_second racing_q.race.is_second (ap (λ (s : SitePair). s.other) same) in
      λ i. record { event = event i; write = write i }

  -- groups under any sites are single pairs
  pub races-of-groups : AreRacesAt run place (map first_pair groups)
  races-of-groups = record {
    sound = λ n p at.
        let found = group-at groups n p at in
        let k = is.gathers.among n found.0 found.1 in
        let s = is.list.sound k.0 found.0.pair k.1 in
        subst (λ (q : RacingPair). IsRacingPair (execution run) q × (event_place run q ≡ place)) found.2 s;
    complete = λ p racing here.
        let k = is.gathers.covered p (is.list.complete p racing here) in
        let n = k.0 in
        let g = k.1.0 in
        let m = is.gathers.among n g k.1.1 in
        let s = is.list.sound m.0 g.pair m.1 in
        (n, at-group groups n g k.1.1 ∙ ap Some (same-pair-of g.pair p s.0 racing k.1.2));
    sorted = λ m n p q l at_p at_q.
        let a = group-at groups m p at_p in
        let b = group-at groups n q at_q in
        subst (λ (v : RacingPair). ComesBefore (execution run) v q) a.2 (subst (ComesBefore (execution run) a.0.pair) b.2 (is.order m n a.0 b.0 l a.1 b.1));
  }

-- a list of no items
pub no-items : {X : Type 0} (xs : List X) → length xs ≡ 0 → xs ≡ []
no-items [] e = refl
no-items (x ∷ xs) e = absurd (omega (arith, e))

-- an event without groups has no race
pub no-races : (run : LoggedRun) (sites : List (List Site)) (place : ℕ) → AreGroupsOf run sites (λ p. event_place run p ≡ place) [] → AreRacesAt run place []
no-races run sites place is = subst (AreRacesAt run place) (none is.pairs is.gathers.total) is.list
  where
    none : (pairs : List RacingPair) → 0 ≡ length pairs → pairs ≡ []
    none [] e = refl
    none (p ∷ pairs) e = absurd (omega (arith, e))
