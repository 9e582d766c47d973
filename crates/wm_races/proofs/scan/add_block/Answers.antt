use Rattle.std.proofs.Common.{◌≡◌, ◌+◌, ◌<◌, ℕ, Some, length, slice_get, sym, ap, subst, ◌∙◌, arith}
use Rattle.std.proofs.lemmas.Option.{slice_get-get_or}
use Rattle.wm_event.specs.Shape.{IsWellShaped}
use Rattle.wm_races.specs.Groups.{AreGroupsAt, AreGroupsFrom}
use Rattle.wm_races.specs.Progress.{IsReportBelow}
use Rattle.wm_races.proofs.CountLemmas.{order-few}
use Rattle.wm_races.proofs.RaceListLaws.{group-sites-there, report-more}
use Rattle.wm_races.proofs.scan.add_block.Goals as goal

pub loop-groups-init : goal.loop-groups-init
loop-groups-init g c =
    let z : c.args.start ≡ c.args.start + 0 = omega arith in
    record {
      lists = subst (AreGroupsFrom c.args.before.now c.args.table.now c.args.start) (sym c.as_slice-groups-items.ensures.value) c.in_ok-lists.ensures.lists;
      report = subst (λ (n : ℕ). IsReportBelow c.args.before.now c.args.sites.now n c.args.report.now) z c.requires.report;
    }

pub add_all-requires-clause-room : goal.add_all-requires-clause-room
add_all-requires-clause-room g c =
    let run = c.args.before.now in
    let shape : IsWellShaped run = subst IsWellShaped c.candidate.ensures.value c.log-log.ensures.shape in
    let few = order-few run shape in
    let i = c.loop-groups.groups-index in
    let items = c.as_slice-groups-items.result.now in
    let ys = c.as_slice.result.now in
    let inside : i < length items = omega arith in
    let at : slice_get items i ≡ Some c.groups-item.result = slice_get-get_or items i c.groups-item.result inside ∙ ap Some (sym c.groups-item.is) in
    let are : AreGroupsAt run c.args.sites.now (c.args.start + i) ys = subst (AreGroupsAt run c.args.sites.now (c.args.start + i)) (sym c.as_slice.ensures) (c.loop-groups.invariant.lists i c.groups-item.result at c.args.sites.now c.requires.class_sites) in
    let count = c.in_ok-lists.ensures.count in
    let same = ap length c.as_slice-groups-items.ensures.value in
    let total = c.loop-groups.invariant.report.total in
    let most = c.loop-groups.invariant.report.few in
    let short = are.few in
    let whole = c.requires.inside in
    omega (arith, few, inside, count, same, total, most, short, whole)

pub add_all-requires-clause-sites : goal.add_all-requires-clause-sites
add_all-requires-clause-sites g c n p at_p =
    let run = c.args.before.now in
    let shape : IsWellShaped run = subst IsWellShaped c.candidate.ensures.value c.log-log.ensures.shape in
    let few = order-few run shape in
    let i = c.loop-groups.groups-index in
    let items = c.as_slice-groups-items.result.now in
    let ys = c.as_slice.result.now in
    let inside : i < length items = omega arith in
    let at : slice_get items i ≡ Some c.groups-item.result = slice_get-get_or items i c.groups-item.result inside ∙ ap Some (sym c.groups-item.is) in
    let are : AreGroupsAt run c.args.sites.now (c.args.start + i) ys = subst (AreGroupsAt run c.args.sites.now (c.args.start + i)) (sym c.as_slice.ensures) (c.loop-groups.invariant.lists i c.groups-item.result at c.args.sites.now c.requires.class_sites) in
    group-sites-there run c.args.sites.now c.requires.sites (c.args.start + i) ys are n p at_p

pub loop-groups-preserved : goal.loop-groups-preserved
loop-groups-preserved g c =
    let run = c.args.before.now in
    let shape : IsWellShaped run = subst IsWellShaped c.candidate.ensures.value c.log-log.ensures.shape in
    let few = order-few run shape in
    let i = c.loop-groups.groups-index in
    let items = c.as_slice-groups-items.result.now in
    let ys = c.as_slice.result.now in
    let inside : i < length items = omega arith in
    let at : slice_get items i ≡ Some c.groups-item.result = slice_get-get_or items i c.groups-item.result inside ∙ ap Some (sym c.groups-item.is) in
    let are : AreGroupsAt run c.args.sites.now (c.args.start + i) ys = subst (AreGroupsAt run c.args.sites.now (c.args.start + i)) (sym c.as_slice.ensures) (c.loop-groups.invariant.lists i c.groups-item.result at c.args.sites.now c.requires.class_sites) in
    let next : c.args.start + i + 1 ≡ c.args.start + (i + 1) = omega arith in
    record {
      lists = c.loop-groups.invariant.lists;
      report = subst (λ (n : ℕ). IsReportBelow run c.args.sites.now n c.add_all.new.self) next
          (report-more run c.args.sites.now (c.args.start + i) ys c.loop-groups.report c.add_all.new.self few c.loop-groups.invariant.report are
          c.in_ok-add_all.ensures.gathered c.in_ok-add_all.ensures.report c.in_ok-add_all.ensures.total);
    }
