use Rattle.std.proofs.Common.{◌≡◌, List, [], sym, subst}
use Rattle.std.proofs.lemmas.Result.{IfOk-weaker}
use Rattle.wm_event.specs.Log.{HasKeys}
use Rattle.wm_event.specs.LoggedRun.{LoggedRun}
use Rattle.wm_races.specs.First.{AreRacesAt}
use Rattle.wm_races.specs.Groups.{AreGroupsOf}
use Rattle.wm_races.specs.Listing.{event_place}
use Rattle.wm_races.specs.declared.group.Group.{Group}
use Rattle.wm_races.specs.declared.site.Site.{Site}
use Rattle.wm_races.proofs.ListLemmas.{none_some}
use Rattle.wm_races.proofs.OneSiteLaws.{no-items, no-races, races-of-groups}
use Rattle.wm_races.proofs.first.races_at.Goals as goal

pub returns-then-is_empty : goal.returns-then-is_empty
returns-then-is_empty c =
    let run = c.args.before.now in
    let sites = c.requires.sites.0 in
    let groups : List Group = c.in_ok-groups_of.field-0 in
    let grouped : AreGroupsOf run sites (λ p. event_place run p ≡ c.args.place) groups = (c.in_ok-groups_of.ensures sites c.requires.sites.1).groups_of in
    let none : groups ≡ [] = no-items groups (c.is_empty-2.ensures.0 c.if-is_empty.true) in
    subst (AreRacesAt run c.args.place) (sym c.new.ensures)
    (no-races run sites c.args.place (subst (λ (gs : List Group). AreGroupsOf run sites (λ p. event_place run p ≡ c.args.place) gs) none grouped))

pub returns : goal.returns
returns c =
    let run = c.args.before.now in
    let keys : HasKeys run.log = subst (λ (x : LoggedRun). HasKeys x.log) c.candidate.ensures.value c.log-log.ensures.shape.keys in
    let groups : List Group = c.as_slice.result.now in
    let grouped : (sites : List (List Site)) → AreGroupsOf run sites (λ p. event_place run p ≡ c.args.place) groups = λ sites.
    subst (λ (gs : List Group). AreGroupsOf run sites (λ p. event_place run p ≡ c.args.place) gs) (sym c.as_slice.ensures)
    (c.in_ok-groups.ensures sites (λ byte classes there. absurd (none_some _ _ (c.none-no_classes.ensures byte) there))).groups_of in
    IfOk-weaker c.first_pairs.result _ _
    (λ pairs is. subst (AreRacesAt run c.args.place) (sym is) (races-of-groups run keys c.args.place groups grouped))
    c.first_pairs.ensures
