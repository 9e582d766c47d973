use Rattle.std.proofs.Common.{◌∷◌, [], ◌++◌, ap, subst, sym, ◌∙◌}
use Rattle.std.specs.Prelude.{unwrap_or}
use Rattle.wm_event.specs.declared.event.EventKey.{EventKey}
use Rattle.wm_races.specs.declared.site.Site.{Site}
use Rattle.wm_sites.specs.declared.sites.RunSites.{RunSites}
use Rattle.wm_sites.specs.Sites.{AreThreadSites, IsSiteAt, first_site, position_in}
use Rattle.wm_replay.proofs.LogPositions.{one_more}
use Rattle.wm_sites.proofs.EventSites.{event_at, site_or_first, thread_sites_more}
use Rattle.wm_sites.proofs.sites.thread_sites.Goals as goal

pub loop-event-preserved : goal.loop-event-preserved
loop-event-preserved c =
    let events = c.args.thread.now.events in
    let n = c.loop-event.event-index in
    let run = c.loop-event.run in
    let table = run.positions.items in
    let old = c.loop-event.sites in
    let new = c.push.new.self in
    let found = c.in_ok-site.field-0 in
    let site = unwrap_or found first_site in
    let at = event_at events c.as_slice-event-items.result.now n _ c.key.result c.as_slice-event-items.ensures c.loop-event-test.true c.key.ensures in
    let made = subst (λ (key : EventKey). IsSiteAt run.map (position_in table key) site) at.2 (site_or_first run.map table c.key.result found c.in_ok-site.ensures.site c.in_ok-site.ensures.none) in
    let more = c.in_ok-push.ensures.ok ∙ ap (λ (s : Site). old ++ s ∷ []) c.unwrap_or-site.ensures in
    let sites = thread_sites_more run.map table events old new n at.0 site c.loop-event.invariant.count c.loop-event.invariant.sites at.1 made more in
    record {
      count = one_more n old new site c.loop-event.invariant.count more;
      sites = subst (λ (r : RunSites). AreThreadSites r.map r.positions.items events new) (sym c.in_ok-site.ensures.same) sites;
      same = c.in_ok-site.ensures.same ∙ c.loop-event.invariant.same;
    }
