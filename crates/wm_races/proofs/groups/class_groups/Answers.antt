use Rattle.std.proofs.Common.{◌≡◌, ◌+◌, ◌<◌, length, Some, slice_get, sym, ap, subst, ◌∙◌, arith}
use Rattle.std.proofs.lemmas.Option.{slice_get-get_or}
use Rattle.wm_event.specs.Shape.{IsWellShaped}
use Rattle.wm_races.specs.Groups.{AreGroupsOf, ArePlaced, RiseInPlace}
use Rattle.wm_races.proofs.GroupLemmas.{groups_none, placed_insert}
use Rattle.wm_races.proofs.ByteLemmas.{IsOfFirst, class_done, class_none, class_some, of_none, rises_insert}
use Rattle.wm_races.proofs.groups.class_groups.Goals as goal
use Rattle.wm_races.proofs.groups.class_groups.Goals.{in-Some+in_ok-insert, in_default}

pub loop-class-init : goal.loop-class-init
loop-class-init c =
    let run = c.args.before.now in
    let shape : IsWellShaped run = subst IsWellShaped c.candidate.ensures.value c.log-log.ensures.shape in
    let none = sym c.new-groups.ensures.items in
    record {
      groups = λ sites of_sites. subst (AreGroupsOf run sites (IsOfFirst run c.args.place c.args.address c.args.classes.now 0)) none
          (groups_none run sites (IsOfFirst run c.args.place c.args.address c.args.classes.now 0) (λ p racing h. of_none run shape.order c.args.place c.args.address c.args.classes.now c.requires.classes p h));
      placed = subst (ArePlaced run) none (λ n g at. absurd (cc (at)));
      rises = subst RiseInPlace none (λ i j d l h. absurd (omega (arith, h)));
    }

pub loop-class-preserved : goal.loop-class-preserved
loop-class-preserved c =
    let run = c.args.before.now in
    let shape : IsWellShaped run = subst IsWellShaped c.candidate.ensures.value c.log-log.ensures.shape in
    let i = c.loop-class.class-index in
    let classes = c.args.classes.now in
    let inside : i < length classes = omega arith in
    let at : slice_get classes i ≡ Some c.class-item.result = slice_get-get_or classes i c.class-item.result inside ∙ ap Some (sym c.class-item.is) in
    elim c.match-group_with.branch [
      | in-Some+in_ok-insert w ↦
          let g = w.in-Some.group in
          let inserts = w.in_ok-insert.ensures in
          let is = sym w.groups-is in
          record {
            groups = λ sites of_sites. subst (λ (v : _). AreGroupsOf run sites (IsOfFirst run c.args.place c.args.address classes (i + 1)) v.items) is
                (class_some run shape.order c.args.place c.args.address classes c.requires.classes i c.class-item.result at sites of_sites c.loop-class.groups.items _ g c.loop-class.invariant.placed w.in-Some.ensures inserts
                (c.loop-class.invariant.groups sites of_sites));
            placed = subst (λ (v : _). ArePlaced run v.items) is (placed_insert run c.loop-class.groups.items _ g c.loop-class.invariant.placed w.in-Some.ensures.placed inserts);
            rises = subst (λ (v : _). RiseInPlace v.items) is (rises_insert c.loop-class.groups.items _ g c.loop-class.invariant.rises inserts);
          }
      | in_default w ↦
          let is = sym w.groups-is in
          record {
            groups = λ sites of_sites. subst (λ (v : _). AreGroupsOf run sites (IsOfFirst run c.args.place c.args.address classes (i + 1)) v.items) is
                (class_none run shape.order c.args.place c.args.address classes c.requires.classes i c.class-item.result at sites c.loop-class.groups.items w.in_default.ensures (c.loop-class.invariant.groups sites of_sites));
            placed = subst (λ (v : _). ArePlaced run v.items) is c.loop-class.invariant.placed;
            rises = subst (λ (v : _). RiseInPlace v.items) is c.loop-class.invariant.rises;
          }
    ]

pub returns : goal.returns
returns c sites of_sites =
    let run = c.args.before.now in
    let shape : IsWellShaped run = subst IsWellShaped c.candidate.ensures.value c.log-log.ensures.shape in
    class_done run shape.order c.args.place c.args.address c.args.classes.now c.requires.classes c.loop-class.class-index c.loop-class-test.false sites c.loop-class.groups.items (c.loop-class.invariant.groups sites of_sites)
