use Rattle.std.proofs.Common.{◌≡◌, ◌+◌, ◌≤◌, ◌∙◌, List, Some, ap, length, map, refl, subst, sym, take}
use Rattle.std.proofs.lemmas.Option.{none-some}
use Rattle.std.specs.Prelude.{slice_get}
use Rattle.wm_event.specs.Shape.{event_counts}
use Rattle.wm_event.specs.declared.log.ThreadLog.{ThreadLog}
use Rattle.wm_machine.specs.declared.thread.CodePosition.{CodePosition}
use Rattle.wm_races.proofs.SiteLaws.{sites-of-shape}
use Rattle.wm_races.specs.declared.site.Site.{Site}
use Rattle.wm_replay.proofs.Logs.{item_at}
use Rattle.wm_sites.specs.declared.sites.RunSites.{RunSites}
use Rattle.wm_sites.specs.Sites.{Code, code_in}
use Rattle.wm_sites.proofs.EventSites.{AreSitesIn, event_site, sites_more}
use Rattle.wm_sites.proofs.SiteShapes.{shape_more, whole_shape}
use Rattle.wm_sites.proofs.sites.event_sites.Goals as goal

pub loop-thread-init : goal.loop-thread-init
loop-thread-init c =
    let none = c.new-sites.ensures.items in
    record {
      shape = ap (λ (sites : List (List Site)). map length sites) none;
      count = ap (λ (sites : List (List Site)). length sites) none;
      sites = λ k own at. absurd (none-some own (subst (λ (sites : List (List Site)). slice_get sites k ≡ Some own) none at));
      same = refl;
    }

pub loop-thread-preserved : goal.loop-thread-preserved
loop-thread-preserved c =
    let log = c.args.log.now in
    let n = c.loop-thread.thread-index in
    let run = c.loop-thread.run in
    let new = c.push.new.self.items in
    let is : slice_get log n ≡ Some c.thread-item.result =
    item_at log c.threads-thread-items.result.now n c.thread-item.result c.threads-thread-items.ensures.value c.loop-thread-test.true c.thread-item.is in
    let more =
    sites_more run.map run.positions.items log c.loop-thread.sites.items new n c.thread-item.result c.in_ok-thread_sites.field-0 c.loop-thread.invariant.count c.loop-thread.invariant.sites is
    c.in_ok-thread_sites.ensures.sites c.in_ok-push.ensures.items
    in
    record {
      shape = subst (λ (sites : List (List Site)). map length sites ≡ event_counts (take (n + 1) log)) (sym {A = List (List Site)} c.in_ok-push.ensures.items)
          (shape_more log c.loop-thread.sites.items n c.thread-item.result c.in_ok-thread_sites.field-0 is c.loop-thread.invariant.shape c.in_ok-thread_sites.ensures.count);
      count = more.0;
      sites = subst (λ (r : RunSites). AreSitesIn r.map r.positions.items log new) (sym c.in_ok-thread_sites.ensures.same) more.1;
      same = c.in_ok-thread_sites.ensures.same ∙ c.loop-thread.invariant.same;
    }

pub returns : goal.returns
returns c =
    let log = c.args.log.now in
    let n = c.loop-thread.thread-index in
    let sites = c.loop-thread.sites.items in
    let run = c.in_ok-run.run' in
    let table = c.args.positions.items in
    let all : length log ≤ n = subst (λ (items : List ThreadLog). length items ≤ n) c.threads-thread-items.ensures.value c.loop-thread-test.false in
    let each = subst (λ (r : RunSites). AreSitesIn r.map r.positions.items log sites) c.loop-thread.invariant.same c.loop-thread.invariant.sites in
    let of_module = subst (λ (code : Code). AreSitesIn code run.positions.items log sites) c.in_ok-run.ensures.map each in
    let of_table = subst (λ (t : List (List CodePosition)). AreSitesIn (code_in c.args.code) t log sites) c.in_ok-run.ensures.positions of_module in
    record {
      has = sites-of-shape log sites (whole_shape log sites n all c.loop-thread.invariant.shape);
      sites = record { table = table; positions = c.requires; each = event_site (code_in c.args.code) table log sites c.threads-thread-items.ensures.keys of_table };
    }
