use Rattle.std.proofs.Common.{◌≡◌, ltb, true, false, arith, ap, sym, rules, get_or, List, length, subst}
use Rattle.std.proofs.lemmas.Bool.{ltb-true, ltb-false}
use Rattle.std.proofs.lemmas.List.Sorted.{IsPartitionPoint-from_clause, IsPartitionedBy-ltb}
use Rattle.std.proofs.lemmas.Option.{get_or_from_slice_get, slice_get_within}
use Rattle.std.specs.List.Sorted.{IsPartitionPoint}
use Rattle.wm_races.specs.Groups.{RiseInPlace}
use Rattle.wm_races.specs.declared.group.Group.{Group}
use Rattle.wm_races.proofs.group.insert.Goals as goal

pub returns : goal.returns
returns c =
    let place = c.args.group.place in
    let old = c.args.groups.now.items in
    let at = c.partition_point-at.result in
    let parted : IsPartitionPoint (λ (g : Group). ltb g.place place ≡ true) (λ (g : Group). ltb g.place place ≡ false) old at =
    subst (λ (gs : List Group). IsPartitionPoint (λ (g : Group). ltb g.place place ≡ true) (λ (g : Group). ltb g.place place ≡ false) gs at) c.as_slice.ensures.value
    (IsPartitionPoint-from_clause (λ (g : Group). ltb g.place place) c.as_slice.result.now at c.partition_point-at.ensures.partitioned
    (IsPartitionedBy-ltb (λ (g : Group). g.place) c.as_slice.result.now place (subst RiseInPlace (sym c.as_slice.ensures.value) c.requires)) (λ a r q k. search rules)) in
    let bound = c.partition_point-at.ensures.bound in
    let same = ap length c.as_slice.ensures.value in
    record {
      at = at;
      within = omega (arith, bound, same);
      is = c.in_ok-insert.ensures.items;
      below = λ n h l at_h.
          let e = ap (λ (g : Group). g.place) (get_or_from_slice_get old n h h at_h) in
          let t = ltb-true (get_or old n h).place place (parted.0 n h (omega arith) l) in
          omega (arith, e, t);
      above = λ n h l at_h.
          let e = ap (λ (g : Group). g.place) (get_or_from_slice_get old n h h at_h) in
          let t = ltb-false (get_or old n h).place place (parted.1 n h l (slice_get_within old n h at_h)) in
          omega (arith, e, t);
    }
