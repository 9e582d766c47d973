-- The positions and the sites of a log's events, thread by thread.
use Rattle.std.proofs.Common.{◌≡◌, ℕ, ◌+◌, ◌<◌, List, [], ◌∷◌, ◌++◌, length, get_or, Option, Some, None, refl, sym, ap, subst, ◌∙◌, inl, inr}
use Rattle.std.specs.Prelude.{IfSome, slice_get, unwrap_or}
use Rattle.std.proofs.lemmas.Option.{option_and_then_some, same_Some, slice_get-get_or}
use Rattle.wm_event.specs.declared.event.Event.{Event}
use Rattle.wm_event.specs.declared.event.EventKey.{EventKey}
use Rattle.wm_event.specs.declared.log.ThreadLog.{ThreadLog}
use Rattle.wm_event.specs.Event.{key_of}
use Rattle.wm_event.specs.Log.{HasKeys, event_in}
use Rattle.wm_event.proofs.WritesLemmas.{each_more}
use Rattle.wm_machine.specs.declared.thread.CodePosition.{CodePosition}
use Rattle.wm_races.specs.declared.site.Site.{Site}
use Rattle.wm_races.specs.Report.{site_in}
use Rattle.wm_sites.specs.Sites.{Code, AreSitesOf, AreThreadSites, IsMadeNowhere, IsNoOpcode, IsSiteAt, IsSiteMade, IsSiteOf, IsSiteOrFirst, first_site, position_in}
use Rattle.wm_replay.proofs.LogPositions.{one_more}

-- the sites of the first threads
abbrev pub AreSitesIn : Code → List (List CodePosition) → List ThreadLog → List (List Site) → Type 0
AreSitesIn c table log sites = (k : ℕ) (own : List Site) → slice_get sites k ≡ Some own → (t : ThreadLog) → slice_get log k ≡ Some t → AreThreadSites c table t.events own

pub sites_more : (c : Code) (table : List (List CodePosition)) (log : List ThreadLog) (sites new : List (List Site)) (n : ℕ) (t : ThreadLog) (own : List Site) → length sites ≡ n → AreSitesIn c table log sites
    → slice_get log n ≡ Some t → AreThreadSites c table t.events own → new ≡ sites ++ own ∷ [] → (length new ≡ n + 1) × AreSitesIn c table log new
sites_more c table log sites new n t own count each is one more = (
  one_more n sites new own count more,
  subst (AreSitesIn c table log) (sym more)
      (each_more (λ k found. (u : ThreadLog) → slice_get log k ≡ Some u → AreThreadSites c table u.events found) sites own each
      (λ u at.
      let at_n : slice_get log n ≡ Some u = ap (slice_get log) (sym count) ∙ at in subst (λ (v : ThreadLog). AreThreadSites c table v.events own) (same_Some t u (sym is ∙ at_n)) one)),
)

pub thread_sites_more : (c : Code) (table : List (List CodePosition)) (events : List Event) (sites new : List Site) (n : ℕ) (e : Event) (site : Site) → length sites ≡ n → AreThreadSites c table events sites
    → slice_get events n ≡ Some e → IsSiteAt c (position_in table (key_of e)) site → new ≡ sites ++ site ∷ [] → AreThreadSites c table events new
thread_sites_more c table events sites new n e site count each is one more =
    subst (AreThreadSites c table events) (sym more)
    (each_more (λ k found. (f : Event) → slice_get events k ≡ Some f → IsSiteAt c (position_in table (key_of f)) found) sites site each
    (λ f at.
    let at_n : slice_get events n ≡ Some f = ap (slice_get events) (sym count) ∙ at in subst (λ (x : Event). IsSiteAt c (position_in table (key_of x)) site) (same_Some e f (sym is ∙ at_n)) one))

pub position_sites_more : (c : Code) (positions : List CodePosition) (sites new : List Site) (n : ℕ) (p : CodePosition) (site : Site) → length sites ≡ n → AreSitesOf c positions sites → slice_get positions n ≡ Some p
    → IsSiteOrFirst c p site → new ≡ sites ++ site ∷ [] → AreSitesOf c positions new
position_sites_more c positions sites new n p site count each is one more =
    subst (AreSitesOf c positions) (sym more)
    (each_more (λ k found. (q : CodePosition) → slice_get positions k ≡ Some q → IsSiteOrFirst c q found) sites site each
    (λ q at.
    let at_n : slice_get positions n ≡ Some q = ap (slice_get positions) (sym count) ∙ at in subst (λ (x : CodePosition). IsSiteOrFirst c x site) (same_Some p q (sym is ∙ at_n)) one))

first_at : (c : Code) (o : Option CodePosition) → ((p : CodePosition) → o ≡ Some p → IsNoOpcode c.module p) → IsSiteAt c o first_site
first_at c None nowhere = refl
first_at c (Some p) nowhere = inr (refl, nowhere p refl)

-- the site that was found, or else the first
pub site_or_first : (c : Code) (table : List (List CodePosition)) (key : EventKey) (found : Option Site) → IfSome found (IsSiteMade c table key) → (found ≡ None → IsMadeNowhere c.module table key) → IsSiteAt c (position_in table key) (unwrap_or found first_site)
site_or_first c table key None h none = first_at c (position_in table key) (none refl)
site_or_first c table key (Some site) h none = subst (λ (o : Option CodePosition). IsSiteAt c o site) (sym h.1) (inl h.2)

pub found_or_first : (c : Code) (p : CodePosition) (found : Option Site) → IfSome found (IsSiteOf c p) → (found ≡ None → IsNoOpcode c.module p) → IsSiteOrFirst c p (unwrap_or found first_site)
found_or_first c p None h none = inr (refl, none refl)
found_or_first c p (Some site) h none = inl h

pub event_site : (c : Code) (table : List (List CodePosition)) (log : List ThreadLog) (sites : List (List Site)) → HasKeys log → AreSitesIn c table log sites → (key : EventKey) (e : Event) (site : Site)
    → event_in log key ≡ Some e → site_in sites key ≡ Some site → IsSiteAt c (position_in table key) site
event_site c table log sites keys each key e site at is =
    option_and_then_some (λ (thread : ThreadLog). slice_get thread.events key.number) (slice_get log key.thread) e at λ t is_t at_e.
    option_and_then_some (λ (own : List Site). slice_get own key.number) (slice_get sites key.thread) site is λ own is_own at_site.
    subst (λ (k : EventKey). IsSiteAt c (position_in table k) site) same (each key.thread own is_own t is_t key.number site at_site e at_e)
  where
    same : key_of e ≡ key
    same =
        ap (λ (x : ℕ). record { thread = x; number = e.number }) (keys key e at).0 ∙ ap (λ (x : ℕ). record { thread = key.thread; number = x }) (keys key e at).1

-- the event whose key is asked for
pub event_at : (events items : List Event) (n : ℕ) (d : Event) (key : EventKey) → items ≡ events → n < length items → key ≡ key_of (get_or items n d) → (e : Event) × (slice_get events n ≡ Some e) × (key ≡ key_of e)
event_at events items n d key is within same =
    (get_or items n d, subst (λ (xs : List Event). slice_get xs n ≡ Some (get_or items n d)) is (slice_get-get_or items n d within), same)
