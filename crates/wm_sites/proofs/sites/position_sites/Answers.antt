use Rattle.std.proofs.Common.{◌∷◌, [], ◌++◌, get_or, ap, subst, sym, ◌∙◌}
use Rattle.std.proofs.lemmas.Option.{slice_get-get_or}
use Rattle.wm_machine.specs.declared.thread.CodePosition.{CodePosition}
use Rattle.wm_races.specs.declared.site.Site.{Site}
use Rattle.std.specs.Prelude.{unwrap_or}
use Rattle.wm_sites.specs.Sites.{AreSitesOf, Code, first_site}
use Rattle.wm_replay.proofs.LogPositions.{one_more}
use Rattle.wm_sites.proofs.EventSites.{found_or_first, position_sites_more}
use Rattle.wm_sites.proofs.sites.position_sites.Goals as goal

pub loop-position-preserved : goal.loop-position-preserved
loop-position-preserved c =
    let positions = c.args.positions.now in
    let n = c.loop-position.position-index in
    let old = c.loop-position.sites in
    let new = c.push.new.self in
    let none : CodePosition = record { func = 0; block = 0; at = 0 } in
    let p = get_or positions n none in
    let found = c.in_ok-found.found in
    let more = c.in_ok-push.ensures.ok ∙ ap (λ (site : Site). old ++ site ∷ []) c.unwrap_or.ensures in
    let sites =
    position_sites_more c.loop-position.map positions old new n p (unwrap_or found first_site) c.loop-position.invariant.count c.loop-position.invariant.sites
    (slice_get-get_or positions n none c.loop-position-test.true) (found_or_first c.loop-position.map p found c.in_ok-found.ensures.site c.in_ok-found.ensures.none) more
    in
    record {
      count = one_more n old new (unwrap_or found first_site) c.loop-position.invariant.count more;
      sites = subst (λ (code : Code). AreSitesOf code positions new) (sym c.in_ok-found.ensures.same) sites;
      same = c.in_ok-found.ensures.same ∙ c.loop-position.invariant.same;
    }

pub returns-clause-sites : goal.returns-clause-sites
returns-clause-sites c =
    subst (λ (code : Code). AreSitesOf code c.args.positions.now c.loop-position.sites) (c.loop-position.invariant.same ∙ c.in_ok-map.ensures) c.loop-position.invariant.sites
