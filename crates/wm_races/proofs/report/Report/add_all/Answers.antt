use Rattle.std.proofs.Common.{◌≡◌, ◌+◌, ◌<◌, ◌++◌, ◌∷◌, [], List, length, get_or, take, sym, ap, subst, arith, ◌∙◌, append_assoc}
use Rattle.std.specs.Prelude.{sum_by}
use Rattle.std.proofs.lemmas.List.Sums.{sum_by_push}
use Rattle.std.proofs.lemmas.Option.{slice_get-get_or}
use Rattle.std.proofs.lemmas.Grind.{common_steps}
use Rattle.wm_races.specs.Gathering.{AddsGroup, IsGroupReport}
use Rattle.wm_races.specs.Groups.{size_of}
use Rattle.wm_races.specs.Report.{pair_sites}
use Rattle.wm_races.specs.declared.group.Group.{Group}
use Rattle.wm_races.specs.declared.site.SitePair.{SitePair}
use Rattle.wm_races.proofs.ListLemmas.{sum-take}
use Rattle.wm_races.proofs.ReportLemmas.{added, added-total}
use Rattle.wm_races.proofs.report.Report.add_all.Goals as goal

-- no group
abbrev nobody : Group
nobody = record { pair = record { event = record { thread = 0; number = 0 }; write = record { thread = 0; number = 0 } }; place = 0; count = 0 }

pub site_of-requires-in-loop-group : goal.site_of-requires-in-loop-group
site_of-requires-in-loop-group c =
    let inside : c.loop-group.group-index < length c.args.groups.now = omega arith in
    (c.requires.sites c.loop-group.group-index (get_or c.args.groups.now c.loop-group.group-index nobody) (slice_get-get_or c.args.groups.now c.loop-group.group-index nobody inside)).1

pub add_next-requires-clause-room : goal.add_next-requires-clause-room
add_next-requires-clause-room c =
    let i = c.loop-group.group-index in
    let inside : i < length c.args.groups.now = omega arith in
    let before = c.loop-group.invariant.total in
    let all = sum-take size_of c.args.groups.now i nobody inside in
    let room = c.requires.room in
    omega (arith, before, all, room)

pub loop-group-preserved : goal.loop-group-preserved
loop-group-preserved c =
    let i = c.loop-group.group-index in
    let groups = c.args.groups.now in
    let q : Group = get_or groups i nobody in
    let sites = c.args.sites.now in
    let inside : i < length groups = omega arith in
    let more : take (i + 1) groups ≡ take i groups ++ q ∷ [] = grind (arith, common_steps) in
    let s = c.site_of.ensures in
    let t = c.site_of-in-loop-group.ensures in
    let between : record { site = c.site_of.result; other = c.site_of-in-loop-group.result } ≡ pair_sites sites q.pair = (λ j. record { site = s j; other = t j }) in
    let adds : AddsGroup (pair_sites sites q.pair) q c.loop-group.self.lines c.add_next.new.self.lines = subst (λ (b : SitePair). AddsGroup b q c.loop-group.self.lines c.add_next.new.self.lines) between c.in_ok-add_next.ensures.adds in
    let total = added-total (pair_sites sites q.pair) q c.loop-group.self.lines c.add_next.new.self.lines adds in
    let before = c.loop-group.invariant.total in
    let size = ap (sum_by size_of) more ∙ sum_by_push size_of (take i groups) q in
    record {
      gathered = c.in_ok-add_next.ensures.gathered;
      report = λ earlier is. subst (λ (gs : List Group). IsGroupReport sites gs c.add_next.new.self.lines) (append_assoc earlier (take i groups) (q ∷ []) ∙ ap (λ (gs : List Group). earlier ++ gs) (sym more))
          (added sites (earlier ++ take i groups) q c.loop-group.self.lines c.add_next.new.self.lines adds (c.loop-group.invariant.report earlier is));
      total = omega (arith, total, before, size);
    }
