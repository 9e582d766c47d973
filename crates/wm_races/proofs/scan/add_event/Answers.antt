use Rattle.std.proofs.Common.{sym, subst, arith}
use Rattle.wm_event.specs.Shape.{IsWellShaped}
use Rattle.wm_races.specs.Groups.{AreGroupsAt}
use Rattle.wm_races.proofs.CountLemmas.{order-few}
use Rattle.wm_races.proofs.RaceListLaws.{group-sites-there, report-more}
use Rattle.wm_races.proofs.scan.add_event.Goals as goal

pub add_all-requires-clause-room : goal.add_all-requires-clause-room
add_all-requires-clause-room c =
    let run = c.args.before.now in
    let shape : IsWellShaped run = subst IsWellShaped c.candidate.ensures.value c.log-log.ensures.shape in
    let few = order-few run shape in
    let are = c.in_ok-groups.ensures c.args.sites.now c.requires.class_sites in
    let same = c.as_slice.ensures in
    let ys = c.as_slice.result.now in
    let there : AreGroupsAt run c.args.sites.now c.args.place ys = subst (AreGroupsAt run c.args.sites.now c.args.place) (sym same) are in
    let total = c.requires.report.total in
    let most = c.requires.report.few in
    let short = there.few in
    let inside = c.requires.place in
    omega (arith, few, inside, total, most, short)

pub add_all-requires-clause-sites : goal.add_all-requires-clause-sites
add_all-requires-clause-sites c n p at_p =
    let run = c.args.before.now in
    let are = c.in_ok-groups.ensures c.args.sites.now c.requires.class_sites in
    let ys = c.as_slice.result.now in
    let there : AreGroupsAt run c.args.sites.now c.args.place ys = subst (AreGroupsAt run c.args.sites.now c.args.place) (sym c.as_slice.ensures) are in
    group-sites-there run c.args.sites.now c.requires.sites c.args.place ys there n p at_p

pub returns : goal.returns
returns c =
    let run = c.args.before.now in
    let shape : IsWellShaped run = subst IsWellShaped c.candidate.ensures.value c.log-log.ensures.shape in
    let few = order-few run shape in
    let are = c.in_ok-groups.ensures c.args.sites.now c.requires.class_sites in
    let ys = c.as_slice.result.now in
    let there : AreGroupsAt run c.args.sites.now c.args.place ys = subst (AreGroupsAt run c.args.sites.now c.args.place) (sym c.as_slice.ensures) are in
    report-more run c.args.sites.now c.args.place ys c.args.report.now c.add_all.new.self few c.requires.report there
    c.in_ok-add_all.ensures.gathered c.in_ok-add_all.ensures.report c.in_ok-add_all.ensures.total
